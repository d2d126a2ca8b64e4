use Rattle.std.proofs.Common.{◌≡◌, map, take}
use Rattle.disjoint_prover.specs.View.{sides_tree}
use Rattle.disjoint_prover.proofs.guards.Guards.copy.Given as goal

abbrev pub invariant-loop-i : goal.invariant-loop-i
invariant-loop-i l = map sides_tree l.sides.items ≡ map sides_tree (take l.i l.self.sides.items)
