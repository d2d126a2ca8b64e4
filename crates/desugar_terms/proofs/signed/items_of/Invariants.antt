use Rattle.std.proofs.Common.{◌≡◌, ◌++◌, map}
use Rattle.plain_tree.specs.View.{signed_tree}
use Rattle.desugar_values.specs.View.{meaning_tree, meanings_from, meanings_tree}
use Rattle.desugar_terms.specs.Signed.{signeds_of}
use Rattle.desugar_terms.proofs.signed.items_of.Given as goal

abbrev pub invariant-loop-part : goal.invariant-loop-part
invariant-loop-part l =
    map signed_tree l.items.items ++ signeds_of (meanings_from (map meaning_tree l.part-iterator.rest.items))
    ≡ signeds_of (meanings_tree l.fn.several)
