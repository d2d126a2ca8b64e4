-- How two constructors, two rows, and a row and its fields compare by normal forms. One comparison has 100,000
-- units for both sides.
-- The Ur/Web Manual, "Definitional Equality" and "Record Disjointness".
use Rattle.std.specs.Prelude.{◌≡◌, ◌≢◌, ◌&&◌, List, [], ◌∷◌, Option, Some, None, option_map, Ok, Err, if◌then◌else◌}
use Rattle.con_terms.specs.Trees.{Cn, types, record_of, no_pairs, pair, row}
use Rattle.con_terms.specs.Same.{kd_eq}
use Rattle.con_terms.specs.Apart.{Guards}
use Rattle.row_normal.specs.SameTree.{cn_eq}
use Rattle.kind_rules.specs.Flaws.{pieces_touch, too_large}
use Rattle.kind_rules.specs.Compared.{comparison_units, normal_forms, not_apart}

-- the normal forms are one
pub record Alike (a b : Cn) : Type 0 where
  pub form : Cn
  pub forms : normal_forms comparison_units a b ≡ Ok (form, form)

-- the normal forms are these, and differ
pub record Differ (a b m n : Cn) : Type 0 where
  pub normal : normal_forms comparison_units a b ≡ Ok (m, n)
  pub differ : m ≢ n

-- one of them is too large
abbrev pub Large : Cn → Cn → Type 0
Large a b = normal_forms comparison_units a b ≡ Err too_large

-- the normal forms are the record of a row, and this
abbrev pub RecordAnd : Cn → Cn → Cn → Cn → Type 0
RecordAnd t c r n = normal_forms comparison_units t c ≡ Ok (record_of r, n)

-- all pieces of the two normal forms are separated
pub record Disjoint (gs : Guards) (a b : Cn) : Type 0 where
  pub none_touch : not_apart gs a b ≡ None

-- p and q are the first of these pieces that aren't
abbrev pub Touch : Guards → Cn → Cn → Cn → Cn → Type 0
Touch gs a b p q = not_apart gs a b ≡ Some (pieces_touch p q)

-- the value of a piece that is a field of this name
abbrev pub value_of : Cn → Cn → Option Cn
value_of n (row k (pair m v no_pairs)) = if kd_eq k types && cn_eq m n then Some v else None
value_of n _ = None

-- what is found, with one more piece before the others
abbrev pub behind : Cn → Option (Cn × List Cn) → Option (Cn × List Cn)
behind p None = None
behind p (Some r) = Some (r.0, p ∷ r.1)

-- the field that a piece is, with the pieces behind it, or what is found behind
abbrev pub field_or : Option Cn → Cn → List Cn → Option (Cn × List Cn) → Option (Cn × List Cn)
field_or None p ps more = behind p more
field_or (Some v) p ps more = Some (v, ps)

-- the value of the first field of a name among pieces, and the other pieces in their order
abbrev pub field_of : Cn → List Cn → Option (Cn × List Cn)
field_of n [] = None
field_of n (p ∷ ps) = field_or (value_of n p) p ps (field_of n ps)

-- pieces without the first that is this one
abbrev pub without_piece : Cn → List Cn → Option (List Cn)
without_piece c [] = None
without_piece c (p ∷ ps) = if cn_eq p c then Some ps else option_map (λ qs. p ∷ qs) (without_piece c ps)

-- without several, one after another
abbrev pub without_pieces : List Cn → List Cn → Option (List Cn)
without_pieces [] ps = Some ps
without_pieces (c ∷ cs) ps = elim (without_piece c ps) [ None ↦ None | Some qs ↦ without_pieces cs qs ]
