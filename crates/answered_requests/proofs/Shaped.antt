-- The shapes of types name their fields by symbols, and so do the cases of datatypes.
use Rattle.std.proofs.Common.{◌≡◌, ℕ, zero, suc, List, Option, Some, slice_get, refl, ap, subst, ◌∙◌}
use Rattle.std.specs.List.{AllByRecursion}
use Rattle.con_terms.specs.Trees.{Cn}
use Rattle.table_rows.specs.Shapes.{Sh, Shs, Cases}
use Rattle.core_terms.specs.Trees.{Cd, Dt, arity}
use Rattle.core_typing.specs.Entries.{Shaped, of_int, of_text, of_truth, of_datatype, of_nothing, of_fields, of_parameter, AllShaped, none_shaped, one_shaped, FieldsShaped, no_field_shaped, field_shaped, HeldShaped, holds_nothing, holds_one, CasesShaped, no_case, a_case, DatatypesShaped, no_datatype, carried, not_carried}
use Rattle.answered_requests.proofs.Lists.{some_is, no_place, put_among}
use Rattle.answered_requests.proofs.Symbols.{InSymbols, AllInSymbols, FieldInSymbols, parts_in}

mutual
  pub shaped_in : {names : List (List ℕ)} {ds : List Dt} {k : ℕ} {t : Cn} {s : Sh} → Shaped names ds k t s → InSymbols names s
  shaped_in (of_int h e) = tt
  shaped_in (of_text h e) = tt
  shaped_in (of_truth h e b) = tt
  shaped_in (of_datatype h e b i as') = all_in as'
  shaped_in (of_nothing h e) = tt
  shaped_in {names} (of_fields {ps = ps} h e fs) = parts_in names ps (fields_in fs)
  shaped_in (of_parameter h i) = tt

  all_in : {names : List (List ℕ)} {ds : List Dt} {k : ℕ} {ts : List Cn} {ss : Shs} → AllShaped names ds k ts ss → AllInSymbols names ss
  all_in none_shaped = tt
  all_in (one_shaped h r) = (shaped_in h, all_in r)

  fields_in : {names : List (List ℕ)} {ds : List Dt} {k : ℕ} {fs : List (ℕ × Cn)} {ps : List (List ℕ × Sh)} → FieldsShaped names ds k fs ps → AllByRecursion (FieldInSymbols names) ps
  fields_in no_field_shaped = tt
  fields_in {names} (field_shaped {x = x} {name = n} {s = s} {ps = ps} e h r) = put_among (FieldInSymbols names) n s ps ((x, e), shaped_in h) (fields_in r)

-- what a constructor holds
held_in : {names : List (List ℕ)} {ds : List Dt} {k : ℕ} {c : Option Cn} {held : Option Sh} → HeldShaped names ds k c held → (s : Sh) → held ≡ Some s → InSymbols names s
held_in holds_nothing s e = no_place e
held_in {names} (holds_one h) s e = subst (InSymbols names) (some_is e) (shaped_in h)

case_in : {names : List (List ℕ)} {ds : List Dt} {k : ℕ} {cs : List Cd} {cases : Cases} → CasesShaped names ds k cs cases → (j : ℕ) (n : List ℕ) (s : Sh) → slice_get cases j ≡ Some (n, Some s) → InSymbols names s
case_in no_case j n s e = no_place e
case_in (a_case t h r) zero n s e = held_in h s (ap (λ (x : List ℕ × Option Sh). x.1) (some_is e))
case_in (a_case t h r) (suc j) n s e = case_in r j n s e

pub datatype_in : {names : List (List ℕ)} {all ds : List Dt} {css : List Cases} → DatatypesShaped names all ds css → (i : ℕ) (cs : Cases) → slice_get css i ≡ Some cs → (j : ℕ) (n : List ℕ) (s : Sh) → slice_get cs j ≡ Some (n, Some s) → InSymbols names s
datatype_in no_datatype i cs e j n s g = no_place e
datatype_in {names} {all} (carried {d = d} h r) zero cs e j n s g = case_in (subst (CasesShaped names all (arity d) d.constructors) (some_is e) h) j n s g
datatype_in (not_carried h r) zero cs e j n s g = no_place (ap (λ (xs : Cases). slice_get xs j) (some_is e) ∙ g)
datatype_in (carried h r) (suc i) cs e j n s g = datatype_in r i cs e j n s g
datatype_in (not_carried h r) (suc i) cs e j n s g = datatype_in r i cs e j n s g

-- and each list of cases is that of a datatype
pub datatype_there : {names : List (List ℕ)} {all ds : List Dt} {css : List Cases} → DatatypesShaped names all ds css → (i : ℕ) (cs : Cases) → slice_get css i ≡ Some cs → (d : Dt) × (slice_get ds i ≡ Some d)
datatype_there no_datatype i cs e = no_place e
datatype_there (carried {d = d} h r) zero cs e = (d, refl)
datatype_there (not_carried {d = d} h r) zero cs e = (d, refl)
datatype_there (carried h r) (suc i) cs e = datatype_there r i cs e
datatype_there (not_carried h r) (suc i) cs e = datatype_there r i cs e
