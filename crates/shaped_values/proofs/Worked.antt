-- Values that types have, worked out.
use Rattle.std.proofs.Common.{◌≡◌, ℕ, zero, suc, ◌-◌, pos, true, List, [], ◌∷◌, Some, None, refl, ap, arith, inr, FitsSigned}
use Rattle.std.specs.Int.{w64}
use Rattle.con_terms.specs.Trees.{Cn, types, var, basic, record_of, name, row, no_pairs}
use Rattle.row_normal.specs.NormalForm.{nf}
use Rattle.kind_rules.specs.Compared.{comparison_units}
use Rattle.core_terms.specs.Datatypes.{basis_datatypes}
use Rattle.core_terms.specs.Names.{bool_name, int_name}
use Rattle.core_typing.specs.Scopes.{normal_of}
use Rattle.core_meaning.specs.Values.{of_number, of_fields, no_slots, slot, truth, done, name_in}
use Rattle.shaped_values.specs.Values.{IsName, IsOf, deeper, at_form, is_number, is_bare, is_holding, is_record, no_field, one_field}
use Rattle.shaped_values.specs.Examples.{option_int, some_number, record_at_name, ExamplesAreValues}

form_from : (c : Cn) → nf comparison_units c ≡ Some (c, comparison_units) → normal_of c ≡ Some c
form_from c h = ap (λ o. elim o [ None ↦ None | Some r ↦ Some r.0 ]) h

bool_form : nf comparison_units (basic bool_name) ≡ Some (basic bool_name, comparison_units)
unfolding comparison_units
bool_form = refl

int_form : nf comparison_units (basic int_name) ≡ Some (basic int_name, comparison_units)
unfolding comparison_units
int_form = refl

option_form : nf comparison_units option_int ≡ Some (option_int, comparison_units)
unfolding comparison_units
option_form = refl

nothing_form : nf comparison_units (record_of (row types no_pairs)) ≡ Some (record_of (row types no_pairs), comparison_units)
unfolding comparison_units
nothing_form = refl

record_form : nf comparison_units record_at_name ≡ Some (record_at_name, comparison_units)
unfolding comparison_units
record_form = refl

zero_fits : FitsSigned w64 (pos 0)
zero_fits = record { sfits = omega arith }

a_truth : (cs : List Cn) (d : ℕ) → IsOf basis_datatypes cs d (basic bool_name) (truth true)
a_truth cs zero = deeper
a_truth cs (suc d) = at_form (form_from (basic bool_name) bool_form) (is_bare refl refl)

a_number : (cs : List Cn) (d : ℕ) → IsOf basis_datatypes cs d (basic int_name) (of_number (pos 0))
a_number cs zero = deeper
a_number cs (suc d) = at_form (form_from (basic int_name) int_form) (is_number zero_fits)

an_option : (cs : List Cn) (d : ℕ) → IsOf basis_datatypes cs d option_int some_number
an_option cs zero = deeper
an_option cs (suc d) = at_form (form_from option_int option_form) (is_holding refl refl (a_number cs d))

nothing : (d : ℕ) → IsOf basis_datatypes [] d (record_of (row types no_pairs)) (of_fields no_slots)
nothing zero = deeper
nothing (suc d) = at_form (form_from (record_of (row types no_pairs)) nothing_form) (is_record no_field)

-- the variable is the name that the environment has for it
variable_found : (b : ℕ) → name_in (name 9 ∷ []) (var 0) b ≡ done 9 b
variable_found b =
    let one : suc b - 1 ≡ b = omega arith in
    ap (λ l. done 9 l) one

variable_name : IsName (name 9 ∷ []) (var 0) 9
variable_name = record { steps = 0; left = 0; found = variable_found 0; nothing_else = λ b. inr (b, variable_found b) }

a_record : (d : ℕ) → IsOf basis_datatypes (name 9 ∷ []) d record_at_name (of_fields (slot 8 (truth true) (slot 9 some_number no_slots)))
a_record zero = deeper
a_record (suc d) = at_form (form_from record_at_name record_form) (is_record (one_field variable_name tt refl (an_option (name 9 ∷ []) d) no_field))

pub worked : ExamplesAreValues
worked = (a_truth [], an_option [], nothing, a_record)
