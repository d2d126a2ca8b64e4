-- The program of one page: that it is accepted, and its routes.
use Rattle.std.proofs.Common.{◌≡◌, ℕ, zero, suc, ◌<◌, true, false, List, ◌∷◌, Some, None, refl, subst, arith, sym, ◌∙◌, length, []}
use Rattle.std.specs.Prelude.{codes, Contains, slice_get}
use Rattle.std.specs.List.{All}
use Rattle.std.proofs.lemmas.List.Elements.{All-from_recursion}
use Rattle.con_terms.specs.Trees.{Kd, types, units, row_of, Cn, var, basic, record_of, name, no_pairs, pair}
use Rattle.con_terms.specs.Equal.{same}
use Rattle.con_terms.specs.Kinded.{Kinded, of_basic, of_app, of_row, of_name, of_unit, no_fields, a_field}
use Rattle.table_rows.specs.Shapes.{Sh, a_record, a_data, parameter, shape, part, no_parts, no_shapes, Cases}
use Rattle.link_router.specs.Calls.{Ent, Rts}
use Rattle.core_terms.specs.Names.{list_name, html_context, first_name, second_name, false_name, true_name, none_name, some_name, nil_name, cons_name}
use Rattle.core_terms.specs.Types.{transaction_of, no_types, type_row, at_types, page_type, unit_row}
use Rattle.core_terms.specs.declared.basis.BasisName.TheVariants.{Return}
use Rattle.core_terms.specs.Trees.{basis, call, no_items, with_term, Cd, Dt}
use Rattle.core_terms.specs.Leaves.{NamesThere, FormFits}
use Rattle.core_terms.specs.Datatypes.{constructor_of}
use Rattle.core_typing.specs.Scopes.{Sc}
use Rattle.core_typing.specs.Compared.{Alike}
use Rattle.kind_rules.specs.Compared.{comparison_units}
use Rattle.core_typing.specs.Typed.{of_basis, of_call, of_element, to_con, to_term, to_nothing, of_holding, no_attribute, no_node}
use Rattle.core_typing.specs.Declarations.{Value, values, no_decls, a_val, scope_with, Distinct}
use Rattle.core_typing.specs.Entries.{IsEntry, by_export, by_link, by_action, Shaped, no_argument, no_values, get_alone, RoutesOf, no_datatype, carried, CasesShaped, no_case, a_case, holds_nothing, holds_one, of_parameter, of_datatype, of_fields, none_shaped, one_shaped, no_field_shaped, field_shaped, all_datatypes, value_name}
use Rattle.core_typing.specs.Accepts.{FoldersDiffer, TextsDiffer, type_symbols, EntriesDiffer, Located, NamesBeginNone}
use Rattle.core_typing.proofs.Differing.{all_plain_by_test, differ_by_test, distinct_by_test, none_more}
use Rattle.core_typing.specs.ExampleTerms.{said, with_added}
use Rattle.core_typing.specs.ExampleProgram.{one_page, empty_body, OnePageIsAccepted}
use Rattle.core_terms.specs.declared.exp.Sigil.TheVariants.{Plain}
use Rattle.core_typing.proofs.ExampleClash.{none_in}

abbrev top_level : Sc
top_level = scope_with one_page [] []

no_types_kinded : Kinded top_level.kinds no_types (row_of types)
no_types_kinded = of_row no_fields tt

html_kinded : Kinded top_level.kinds (unit_row (html_context ∷ [])) (row_of units)
html_kinded = of_row (a_field of_name of_unit no_fields) ((λ k d h. absurd (omega (arith, h))), tt)

page_kinded : Kinded top_level.kinds page_type types
page_kinded = of_app (of_app (of_app (of_basic refl) html_kinded) no_types_kinded) no_types_kinded

names_differ : TextsDiffer one_page.names
names_differ = differ_by_test one_page.names refl

located : (v : Value) → Contains (values one_page.decls) v → Located one_page v
located v (zero, h, e) = subst (λ (x : Value). Located one_page x) e (record { in_module = omega arith; named = omega arith; around = tt })
located v (suc k, h, e) = absurd (omega (arith, h))

two_pieces : (v : Value) → Contains (values one_page.decls) v → length (value_name one_page v) ≡ 2
two_pieces v (zero, h, e) = subst (λ (x : Value). length (value_name one_page x) ≡ 2) e refl
two_pieces v (suc k, h, e) = absurd (omega (arith, h))

begins_none : NamesBeginNone one_page
begins_none v w more c d e = none_more (value_name one_page v) (value_name one_page w) more (two_pieces v c ∙ sym (two_pieces w d)) e

distinct : Distinct (type_symbols one_page)
distinct = distinct_by_test (type_symbols one_page) refl

no_folder_there : (i : ℕ) (f : Kd × ℕ) → slice_get [] i ≡ Some f → ⊥
no_folder_there zero f e = cc
no_folder_there (suc i) f e = cc

no_folders : FoldersDiffer one_page.folders
no_folders i j f g h k e = absurd (no_folder_there i f h)

-- its names have texts
html_names : NamesThere 37 (unit_row (html_context ∷ []))
html_names = (omega arith, tt, tt)

page_names : NamesThere 37 (transaction_of page_type)
page_names = (tt, (((tt, html_names), tt), tt))

term_fits : FormFits 37 (call (said (basis Return)) Plain (with_added page_type (with_term empty_body no_items)))
term_fits = (tt, (page_names.1, ((tt, html_names, tt, tt, tt), tt)))

exported : All (λ i. i < 1) (0 ∷ [])
exported = All-from_recursion (λ i. i < 1) (0 ∷ []) (omega arith, tt)

no_action : (i : ℕ) (e : Ent) → IsEntry one_page i true e → ⊥
no_action i e (by_action v t f) = none_in t

exports_below : {i : ℕ} → Contains (0 ∷ []) i → i < 1
exports_below {i} c = omega (arith, exported c.0 i c.1, c.2)

one_value : (i : ℕ) (e : Ent) → IsEntry one_page i false e → i < 1
one_value i e (by_export v x p) = exports_below x
one_value i e (by_link v t p) = absurd (none_in t)

same_number : (i j : ℕ) → i < 1 → j < 1 → i ≡ j
same_number i j h g = omega (arith, h, g)

differ : EntriesDiffer one_page
differ i j true e d h g n = absurd (no_action i e h)
differ i j false e d h g n = absurd (n (same_number i j (one_value i e h) (one_value j d g)))

pub accepted : OnePageIsAccepted
accepted = record {
  formed = record { texts = refl; differ = names_differ; plain = all_plain_by_test one_page.names refl; plain_modules = all_plain_by_test one_page.modules refl; located = located; names_begin_none = begins_none; symbols = distinct; folders = no_folders; leaves = ((omega arith, page_names, term_fits), tt); exported = exported };
  typed = a_val (of_app (of_basic refl) page_kinded)
      (of_call of_basis (to_con page_kinded (to_term (of_element (of_holding false refl tt same html_kinded no_types_kinded no_attribute no_node tt)) to_nothing))) no_decls;
  entries = differ;
}

pub is_page : Alike (transaction_of page_type) (transaction_of page_type)
unfolding comparison_units
is_page = record { form = transaction_of page_type; forms = refl }

-- the routes: one entry, by GET
abbrev pub main_entry : Ent
main_entry = record { name = codes "Main" ∷ codes "main" ∷ []; arguments = no_shapes; form = None }

main_is_entry : IsEntry one_page 0 false main_entry
main_is_entry = by_export refl (0, omega arith, refl) (no_argument is_page)

-- the constructors of bool, option and list
abbrev pub bool_constructors : List Cd
bool_constructors = constructor_of false_name None ∷ constructor_of true_name None ∷ []

abbrev pub option_constructors : List Cd
option_constructors = constructor_of none_name None ∷ constructor_of some_name (Some (var 0)) ∷ []

abbrev pub cons_type : Cn
cons_type = record_of (type_row (pair (name first_name) (var 0) (pair (name second_name) (at_types (basic list_name) (var 0 ∷ [])) no_pairs)))

abbrev pub list_constructors : List Cd
list_constructors = constructor_of nil_name None ∷ constructor_of cons_name (Some cons_type) ∷ []

-- their cases
abbrev pub texts : List (List ℕ)
texts = one_page.names

abbrev pub known : List Dt
known = all_datatypes one_page

abbrev pub bool_cases : Cases
bool_cases = (codes "False", None) ∷ (codes "True", None) ∷ []

abbrev pub option_cases : Cases
option_cases = (codes "None", None) ∷ (codes "Some", Some (parameter 0)) ∷ []

abbrev pub cons_shape : Sh
cons_shape = a_record (part (codes "1") (parameter 0) (part (codes "2") (a_data 2 (shape (parameter 0) no_shapes)) no_parts))

abbrev pub list_cases : Cases
list_cases = (codes "Nil", None) ∷ (codes "Cons", Some cons_shape) ∷ []

cases_of_bool : CasesShaped texts known 0 (bool_constructors) bool_cases
cases_of_bool = a_case refl holds_nothing (a_case refl holds_nothing no_case)

cases_of_option : CasesShaped texts known 1 (option_constructors) option_cases
unfolding comparison_units
cases_of_option = a_case refl holds_nothing (a_case refl (holds_one (of_parameter refl (omega arith))) no_case)

list_is_known : ◌≡◌ {A = ℕ} 5 3 → ⊥
list_is_known e = omega (arith, e)

held_by_cons : Shaped texts known 1 cons_type cons_shape
unfolding comparison_units
held_by_cons =
    of_fields refl refl (field_shaped refl (of_parameter refl (omega arith)) (field_shaped refl (of_datatype refl refl list_is_known refl (one_shaped (of_parameter refl (omega arith)) none_shaped)) no_field_shaped))

cases_of_list : CasesShaped texts known 1 (list_constructors) list_cases
cases_of_list = a_case refl holds_nothing (a_case refl (holds_one held_by_cons) no_case)

abbrev pub routes : Rts
routes = record { datatypes = bool_cases ∷ option_cases ∷ list_cases ∷ []; entries = main_entry ∷ [] }

pub are_routes : RoutesOf one_page routes (0 ∷ [])
are_routes = record {
  listed = (0, main_entry) ∷ [];
  are_entries = get_alone main_is_entry (no_action 0) no_values;
  entries = refl;
  called = refl;
  datatypes = carried cases_of_bool (carried cases_of_option (carried cases_of_list no_datatype));
}
