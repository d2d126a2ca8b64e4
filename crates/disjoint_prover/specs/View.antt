-- What guards and refusals are.
use Rattle.std.specs.Prelude.{◌≡◌, Option, Some, None, Result, MatchResult, map}
use Rattle.con_terms.specs.Trees.{Cn}
use Rattle.con_terms.specs.Apart.{Guards}
use Rattle.con_terms.specs.View.{con_tree}
use Rattle.disjoint_prover.specs.declared.guards.Sides.{Sides}
use Rattle.disjoint_prover.specs.declared.guards.Guards.{Guards as GuardsValue}
use Rattle.disjoint_prover.specs.declared.fault.Pieces.{Pieces}
use Rattle.disjoint_prover.specs.declared.fault.DisjointFault.{DisjointFault}
use Rattle.disjoint_prover.specs.declared.fault.DisjointFault.TheVariants.{Touch, Memory}

abbrev pub sides_tree : Sides → Cn × Cn
sides_tree s = (con_tree s.left, con_tree s.right)

-- the guards, the last one assumed first
abbrev pub guard_list : GuardsValue → Guards
guard_list g = map sides_tree g.sides.items

-- the two pieces
abbrev pub pieces_tree : Pieces → Cn × Cn
pieces_tree p = (con_tree p.left, con_tree p.right)

-- a refusal tells the first pair that isn't separated; want of memory tells nothing
abbrev pub Tells : DisjointFault → Option (Cn × Cn) → Type 0
Tells (Touch p) first = first ≡ Some (pieces_tree p)
Tells Memory first = Unit {0}

-- a call succeeds exactly where there is no such pair, and refuses with the first; or it wants memory
abbrev pub Gives : {X : Type 0} → Result X DisjointFault → Option (Cn × Cn) → Type 0
Gives result first = MatchResult result (λ _. first ≡ None) (λ fault. Tells fault first)

-- what holds of the two pieces that a refusal tells
abbrev pub IfTouch : DisjointFault → (Cn → Cn → Type 0) → Type 0
IfTouch (Touch p) P = P (con_tree p.left) (con_tree p.right)
IfTouch Memory P = Unit {0}
