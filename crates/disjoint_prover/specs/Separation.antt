-- How the rules of disjointness are used on normal forms: which pieces they separate, and the first pair that they
-- don't.
-- The Ur/Web Manual, "Record Disjointness".
use Rattle.std.specs.Prelude.{Bool, true, false, ◌&&◌, ◌||◌, not, List, [], ◌∷◌, ◌++◌, Option, map}
use Rattle.std.specs.List.{find}
use Rattle.con_terms.specs.Trees.{Cn, app, map_of}
use Rattle.con_terms.specs.Apart.{Guards, pieces, both_literal}
use Rattle.row_normal.specs.SameTree.{cn_eq}

-- whether this is a map with its function, which wants only its row
abbrev pub is_mapping : Cn → Bool
is_mapping (app (map_of k l) f) = true
is_mapping c = false

-- whether p is one of these pieces
abbrev pub among : Cn → List Cn → Bool
among p [] = false
among p (q ∷ qs) = cn_eq q p || among p qs

-- whether a guard's two sides, in either order, have the pieces p and q
abbrev pub separated_by : Cn × Cn → Cn → Cn → Bool
separated_by g p q = (among p (pieces g.0) && among q (pieces g.1)) || (among q (pieces g.0) && among p (pieces g.1))

-- whether some guard has them
abbrev pub separated_by_some : Guards → Cn → Cn → Bool
separated_by_some [] p q = false
separated_by_some (g ∷ gs) p q = separated_by g p q || separated_by_some gs p q

-- whether two pieces are separated: literal names that differ, or pieces of the two sides of a guard
abbrev pub separates : Guards → Cn → Cn → Bool
separates gs p q = (both_literal p q && not (cn_eq p q)) || separated_by_some gs p q

-- p with each of qs, in order
abbrev pub with_each : Cn → List Cn → List (Cn × Cn)
with_each p qs = map (λ q. (p, q)) qs

-- each of ps, in order, with each of qs, in order
abbrev pub pairs_of : List Cn → List Cn → List (Cn × Cn)
pairs_of [] qs = []
pairs_of (p ∷ ps) qs = with_each p qs ++ pairs_of ps qs

-- the first of the pairs that isn't separated
abbrev pub first_of : Guards → List (Cn × Cn) → Option (Cn × Cn)
first_of gs pairs = find (λ (pq : Cn × Cn). not (separates gs pq.0 pq.1)) pairs

-- the first pair of pieces of the two rows that isn't separated
abbrev pub first_touch : Guards → Cn → Cn → Option (Cn × Cn)
first_touch gs c d = first_of gs (pairs_of (pieces c) (pieces d))
