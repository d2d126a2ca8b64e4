use Rattle.std.proofs.Common.{◌≡◌, map, take}
use Rattle.con_terms.specs.Trees.{Cn}
use Rattle.con_terms.specs.Substitution.{shift}
use Rattle.disjoint_prover.specs.View.{sides_tree}
use Rattle.disjoint_prover.proofs.guards.Guards.under_binder.Given as goal

abbrev pub invariant-loop-i : goal.invariant-loop-i
invariant-loop-i l = map sides_tree l.sides.items ≡ map (λ (s : Cn × Cn). (shift 1 s.0 0, shift 1 s.1 0)) (map sides_tree (take l.i l.self.sides.items))
