-- How two rows are compared: by the pieces of their normal forms, within the units of one comparison.
-- The Ur/Web Manual, "Record Disjointness".
use Rattle.std.specs.Prelude.{ℕ, List, [], ◌∷◌, Option, Some, None, Result, Ok, Err}
use Rattle.std.specs.Option.{option_or}
use Rattle.con_terms.specs.Trees.{Cn}
use Rattle.con_terms.specs.Apart.{Guards}
use Rattle.disjoint_prover.specs.Separation.{first_touch}
use Rattle.row_normal.specs.NormalForm.{nf}
use Rattle.kind_rules.specs.Flaws.{Flw, pieces_touch, too_large}

-- the units that both sides of one comparison have together
unfoldable pub comparison_units : ℕ
comparison_units = 100000

-- the two normal forms, of which the second is there where it is
abbrev pub with_second : Cn → Option (Cn × ℕ) → Result (Cn × Cn) Flw
with_second m None = Err too_large
with_second m (Some n) = Ok (m, n.0)

-- the normal form of b within the units that the first one leaves
abbrev pub with_first : Option (Cn × ℕ) → Cn → Result (Cn × Cn) Flw
with_first None b = Err too_large
with_first (Some m) b = with_second m.0 (nf m.1 b)

-- the normal forms of both sides, the left one first, within these units together
abbrev pub normal_forms : ℕ → Cn → Cn → Result (Cn × Cn) Flw
normal_forms units a b = with_first (nf units a) b

-- no flaw where there is no such pair of pieces
abbrev pub touch_flaw : Option (Cn × Cn) → Option Flw
touch_flaw None = None
touch_flaw (Some pq) = Some (pieces_touch pq.0 pq.1)

-- what keeps the two sides of a comparison from being apart: one is too large, or the first two pieces that touch
abbrev pub forms_flaw : Guards → Result (Cn × Cn) Flw → Option Flw
forms_flaw gs (Err flaw) = Some flaw
forms_flaw gs (Ok mn) = touch_flaw (first_touch gs mn.0 mn.1)

abbrev pub not_apart : Guards → Cn → Cn → Option Flw
not_apart gs a b = forms_flaw gs (normal_forms comparison_units a b)

-- the same of one name and each of those that follow it, in order
abbrev pub not_apart_from : Guards → Cn → List Cn → Option Flw
not_apart_from gs n [] = None
not_apart_from gs n (m ∷ ms) = option_or (not_apart gs n m) (not_apart_from gs n ms)

-- the same of each name, in order, and those that follow it
abbrev pub not_pairwise_apart : Guards → List Cn → Option Flw
not_pairwise_apart gs [] = None
not_pairwise_apart gs (n ∷ ns) = option_or (not_apart_from gs n ns) (not_pairwise_apart gs ns)
