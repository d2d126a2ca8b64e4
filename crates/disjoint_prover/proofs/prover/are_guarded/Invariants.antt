use Rattle.std.proofs.Common.{◌≡◌, map, drop}
use Rattle.con_terms.specs.View.{con_tree}
use Rattle.disjoint_prover.specs.Separation.{separated_by_some}
use Rattle.disjoint_prover.specs.View.{guard_list, sides_tree}
use Rattle.disjoint_prover.proofs.prover.are_guarded.Given as goal

abbrev pub invariant-loop-i : goal.invariant-loop-i
invariant-loop-i l =
    separated_by_some (guard_list l.g) (con_tree l.left) (con_tree l.right)
    ≡ separated_by_some (map sides_tree (drop l.i l.g.sides.items)) (con_tree l.left) (con_tree l.right)
