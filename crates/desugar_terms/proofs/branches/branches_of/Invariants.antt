use Rattle.std.proofs.Common.{◌≡◌, ◌++◌, map}
use Rattle.plain_tree.specs.ExpView.{branch_tree}
use Rattle.desugar_values.specs.View.{meaning_tree, meanings_from, meanings_tree}
use Rattle.desugar_terms.specs.Branches.{branches_of}
use Rattle.desugar_terms.proofs.branches.branches_of.Given as goal

abbrev pub invariant-loop-part : goal.invariant-loop-part
invariant-loop-part l =
    map branch_tree l.items.items ++ branches_of (meanings_from (map meaning_tree l.part-iterator.rest.items))
    ≡ branches_of (meanings_tree l.fn.several)
