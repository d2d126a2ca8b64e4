-- Where tags stand and what they hold, as the definitions say it.
use Rattle.core_terms.specs.Markup.{Where, in_html, in_head, in_body, in_table, in_tr, Sort, holding, of_words, empty, a_form, an_input, a_button}
use Rattle.core_terms.specs.Types.{string_type, bool_type}
use Rattle.type_makers.specs.declared.tags.Standing.{Standing}
use Rattle.type_makers.specs.declared.tags.Standing.TheVariants as standing
use Rattle.type_makers.specs.declared.tags.TagSort.{TagSort}
use Rattle.type_makers.specs.declared.tags.TagSort.TheVariants as sort

abbrev pub where_of : Standing → Where
where_of standing.Html = in_html
where_of standing.Head = in_head
where_of standing.Body = in_body
where_of standing.Table = in_table
where_of standing.Tr = in_tr

abbrev pub sort_view : TagSort → Sort
sort_view (sort.Holding s) = holding (where_of s)
sort_view sort.Words = of_words
sort_view sort.Empty = empty
sort_view sort.Form = a_form
sort_view sort.TextInput = an_input string_type
sort_view sort.TruthInput = an_input bool_type
sort_view sort.Button = a_button
