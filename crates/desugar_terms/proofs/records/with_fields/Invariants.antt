use Rattle.std.proofs.Common.{◌≡◌, ◌++◌, map}
use Rattle.plain_tree.specs.ExpView.{field_tree}
use Rattle.desugar_values.specs.View.{meaning_tree, meanings_from, meanings_tree}
use Rattle.desugar_terms.specs.Records.{fields_more}
use Rattle.desugar_terms.proofs.records.with_fields.Given as goal

abbrev pub invariant-loop-part : goal.invariant-loop-part
invariant-loop-part l =
    map field_tree l.fields.items ++ fields_more (meanings_from (map meaning_tree l.part-iterator.rest.items))
    ≡ map field_tree l.fn.before.items ++ fields_more (meanings_tree l.fn.several)
