-- How the field of a name is taken out of pieces, and a piece out of others, one piece after another.
use Rattle.std.specs.Prelude.{Bool, true, false, ◌&&◌, List, [], ◌∷◌, ◌++◌, Option, Some, None, option_map, if◌then◌else◌}
use Rattle.con_terms.specs.Trees.{Kd, types, Cn}
use Rattle.con_terms.specs.Same.{kd_eq}
use Rattle.row_normal.specs.SameTree.{cn_eq}
use Rattle.core_typing.specs.Compared.{behind, value_of, field_of, without_piece}

-- the value of a field of this kind, where that is the kind of types and the field's name this one
abbrev pub value_where : Cn → Kd → Cn × Cn → Option Cn
value_where n k f = if kd_eq k types && cn_eq f.0 n then Some f.1 else None

-- the field's value, once it is met, and the other pieces so far
pub record Tg : Type 0 where
  pub value : Option Cn
  pub past : List Cn

abbrev pub none_taken : Tg
none_taken = record { value = None; past = [] }

-- what is found, with some pieces before the others
abbrev pub all_behind : List Cn → Option (Cn × List Cn) → Option (Cn × List Cn)
all_behind [] r = r
all_behind (p ∷ ps) r = behind p (all_behind ps r)

-- what is taken, where so many pieces are still to come
abbrev pub taking_by : Cn → List Cn → Option Cn → List Cn → Option (Cn × List Cn)
taking_by n past None more = all_behind past (field_of n more)
taking_by n past (Some v) more = Some (v, past ++ more)

abbrev pub taking : Cn → Tg → List Cn → Option (Cn × List Cn)
taking n r more = taking_by n r.past r.value more

abbrev pub one_more : Option Cn → Cn → List Cn → Tg
one_more None p past = record { value = None; past = past ++ p ∷ [] }
one_more (Some v) p past = record { value = Some v; past = past }

abbrev pub met : Cn → Cn → Tg → Option Cn → Tg
met n p r None = one_more (value_of n p) p r.past
met n p r (Some v) = record { value = Some v; past = r.past ++ p ∷ [] }

-- behind one more piece
abbrev pub take_one : Cn → Cn → Tg → Tg
take_one n p r = met n p r r.value

-- whether the piece is met, and the other pieces so far
pub record Lv : Type 0 where
  pub is_out : Bool
  pub past : List Cn

abbrev pub none_left : Lv
none_left = record { is_out = false; past = [] }

abbrev pub all_before : List Cn → Option (List Cn) → Option (List Cn)
all_before [] r = r
all_before (p ∷ ps) r = option_map (λ qs. p ∷ qs) (all_before ps r)

abbrev pub leaving_by : Cn → List Cn → Bool → List Cn → Option (List Cn)
leaving_by c past false more = all_before past (without_piece c more)
leaving_by c past true more = Some (past ++ more)

abbrev pub leaving : Cn → Lv → List Cn → Option (List Cn)
leaving c r more = leaving_by c r.past r.is_out more

abbrev pub left_by : Bool → Cn → List Cn → Lv
left_by true p past = record { is_out = true; past = past }
left_by false p past = record { is_out = false; past = past ++ p ∷ [] }

abbrev pub unless_met : Cn → Cn → Lv → Bool → Lv
unless_met c p r false = left_by (cn_eq p c) p r.past
unless_met c p r true = record { is_out = true; past = r.past ++ p ∷ [] }

abbrev pub leave_one : Cn → Cn → Lv → Lv
leave_one c p r = unless_met c p r r.is_out
