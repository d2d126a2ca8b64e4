use Rattle.std.proofs.Common.{◌≡◌, ◌++◌, map}
use Rattle.desugar_values.specs.View.{meaning_tree, meanings_from, meanings_tree}
use Rattle.desugar_terms.specs.NameLists.{names_of}
use Rattle.desugar_terms.proofs.name_lists.add_names.Given as goal

abbrev pub invariant-loop-part : goal.invariant-loop-part
invariant-loop-part l =
    l.all ++ names_of (meanings_from (map meaning_tree l.part-iterator.rest.items))
    ≡ l.fn.names ++ names_of (meanings_tree l.fn.more)
