use Rattle.std.proofs.Common.{◌≡◌, ◌++◌, map}
use Rattle.plain_tree.specs.ExpView.{item_tree}
use Rattle.desugar_values.specs.View.{meaning_tree, meanings_from, meanings_tree}
use Rattle.desugar_terms.specs.Calls.{items_of}
use Rattle.desugar_terms.proofs.calls.items_of.Given as goal

abbrev pub invariant-loop-part : goal.invariant-loop-part
invariant-loop-part l =
    map item_tree l.items.items ++ items_of (meanings_from (map meaning_tree l.part-iterator.rest.items))
    ≡ items_of (meanings_tree l.fn.several)
