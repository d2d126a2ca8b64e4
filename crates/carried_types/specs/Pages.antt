-- Functions of carried arguments that give pages, as they are computed.
use Rattle.std.specs.Prelude.{ℕ, zero, suc, Bool, false, ◌&&◌, List, Option, Some, None, if◌then◌else◌}
use Rattle.con_terms.specs.Trees.{Cn, arrow}
use Rattle.core_terms.specs.Trees.{Dt}
use Rattle.core_terms.specs.Types.{transaction_of, page_type}
use Rattle.core_typing.specs.Scopes.{normal_of}
use Rattle.judgements.specs.Comparisons.{are_alike}
use Rattle.carried_types.specs.Built.{can_carry}
use Rattle.carried_types.specs.Filling.{can_fill}

abbrev pub gives_page : Cn → Bool
gives_page t = are_alike t (transaction_of page_type)

-- the parts of a function's type
abbrev pub arrow_parts : Option Cn → Option (Cn × Cn)
arrow_parts (Some (arrow a b)) = Some (a, b)
arrow_parts _ = None

-- what is left of a type behind an argument, and behind several
abbrev pub behind_one : List Dt → List Bool → Option (Cn × Cn) → Option Cn
behind_one ds bs None = None
behind_one ds bs (Some ab) = if can_carry ds bs ab.0 then Some ab.1 else None

abbrev pub left_of : List Dt → List Bool → Cn → Option Cn
left_of ds bs t = behind_one ds bs (arrow_parts (normal_of t))

abbrev pub left_behind : List Dt → List Bool → ℕ → Cn → Option Cn
left_behind ds bs zero t = Some t
left_behind ds bs (suc n) t = elim (left_of ds bs t) [ None ↦ None | Some b ↦ left_behind ds bs n b ]

abbrev pub page_left : Option Cn → Bool
page_left None = false
page_left (Some t) = gives_page t

abbrev pub shows_page : List Dt → List Bool → ℕ → Cn → Bool
shows_page ds bs n t = page_left (left_behind ds bs n t)

abbrev pub form_parts : Option (Cn × Cn) → Bool
form_parts None = false
form_parts (Some ab) = if can_fill ab.0 then gives_page ab.1 else false

abbrev pub takes_form : Cn → Bool
takes_form t = form_parts (arrow_parts (normal_of t))

abbrev pub form_left : Option Cn → Bool
form_left None = false
form_left (Some t) = takes_form t

abbrev pub sends_form : List Dt → List Bool → ℕ → Cn → Bool
sends_form ds bs n t = form_left (left_behind ds bs n t)
