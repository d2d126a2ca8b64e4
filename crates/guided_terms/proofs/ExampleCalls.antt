-- The terms of the examples, with their types, rule by rule.
use Rattle.std.proofs.Common.{◌≡◌, ℕ, ◌<◌, Bool, true, [], ◌∷◌, Some, None, refl, arith}
use Rattle.std.specs.Prelude.{codes}
use Rattle.con_terms.specs.Trees.{Kd, types, Cn, var, basic, arrow, poly, app, unit_con}
use Rattle.core_terms.specs.declared.exp.ConOrigin.TheVariants.{Inserted}
use Rattle.core_terms.specs.declared.exp.Sigil.TheVariants.{Plain, AtAt}
use Rattle.kind_rules.specs.Compared.{comparison_units}
use Rattle.core_typing.specs.Found.{bound_has, top_has, basis_has}
use Rattle.core_terms.specs.Markup.{in_body}
use Rattle.core_terms.specs.Trees.{pattern, binds, Ex, bound, fn}
use Rattle.core_terms.specs.Types.{int_type, bool_type, show_of}
use Rattle.plain_tree.specs.Trees.{pat, pat_bind}
use Rattle.unknowns.specs.Unknowns.{slot}
use Rattle.unknowns.specs.Unknowns as unknown
use Rattle.guided_terms.specs.Alone.{Lead, an_implicit, BeginsWith, with_implicit, Leads, nothing_more}
use Rattle.guided_terms.specs.Binders.{a_branch, a_case}
use Rattle.guided_terms.specs.Binders as binder
use Rattle.guided_terms.specs.Calls.{a_constructor, a_folder_or_instance, an_argument, no_item, with_items, head_alone, guards_hold, to_some, to_nothing, without_implicit, of_identifier}
use Rattle.guided_terms.specs.Contexts.{free, ring_ground, of_nodes}
use Rattle.guided_terms.specs.Examples.{with_id, with_truth, with_function, named, anywhere, said, three, x_name, identity_source, IdOfThree, ShowOfThree, CaseOfTruth, FunctionIsOpen, FunctionThatWaits, TextInBody}
use Rattle.guided_terms.specs.Guided.{a_number, guided}
use Rattle.guided_terms.specs.Heads.{a_value}
use Rattle.guided_terms.specs.Heres.{Here, with_values}
use Rattle.guided_terms.specs.Implied.{IsImplied, an_instance, a_folder, the_instance}
use Rattle.guided_terms.specs.Literals.{some_text, the_last, a_literal}
use Rattle.guided_terms.specs.Matching.{Tries, nothing_open, fits, open_part, an_unknown}
use Rattle.guided_terms.specs.Parts.{a_found, an_implied, a_told}
use Rattle.guided_terms.specs.Patterns.{OwnType, ParameterType, of_pattern, of_wanted, bare, a_variable}
use Rattle.guided_terms.specs.Settles.{with_whole, with_nothing_ever, no_part, an_unmatched, another, all_told, one_comes}
use Rattle.guided_terms.specs.Walks.{at_end, past_implicit, past_implied, past_told, past_later}
use Rattle.guided_terms.specs.Wanted.{nothing_yet, nothing_ever, whole, HasNoType}

-- an unknown takes int
takes_int : Tries (slot types None unknown.nothing) (var 0) int_type (slot types (Some int_type) unknown.nothing) true
unfolding comparison_units
takes_int = fits refl (record {
  matched = open_part refl refl (an_unknown refl);
  all_found = refl;
  alike = record { form = int_type; forms = refl };
})

-- forms differ
variable_or_application : {i : ℕ} {f a : Cn} → Some (var i) ≡ Some (app f a) → ⊥
variable_or_application e = cc

basic_or_poly : {s : ℕ} {x : Bool} {k : Kd} {b : Cn} → Some (basic s) ≡ Some (poly x k b) → ⊥
basic_or_poly e = cc

pub poly_or_unit : {x : Bool} {k : Kd} {b : Cn} → poly x k b ≡ unit_con → ⊥
poly_or_unit e = cc

basic_or_unit : {s : ℕ} → basic s ≡ unit_con → ⊥
basic_or_unit e = cc

pub plain_or_at_at : Plain ≡ AtAt → ⊥
plain_or_at_at e = cc

arrow_or_application : {a b f c : Cn} → Some (arrow a b) ≡ Some (app f c) → ⊥
arrow_or_application e = cc

none_or_some : {a : Cn} → None ≡ Some a → ⊥
none_or_some e = cc

below_zero : {j : ℕ} → j < 0 → ⊥
below_zero l = omega (arith, l)

-- a variable as a pattern tells no type
no_own : {h : Here} {t : Cn} → OwnType h (pat 6 (pat_bind (codes "x"))) t → ⊥
no_own o = elim o [ ]

-- a variable is no type of folders or instances
no_term_inserted : IsImplied with_id (var 0) → ⊥
unfolding comparison_units
no_term_inserted (an_instance form class) = variable_or_application form
no_term_inserted (a_folder form folder) = variable_or_application form

pub id_of_three : IdOfThree
unfolding comparison_units
id_of_three =
    of_identifier
    (a_value refl refl tt (record { typed = top_has refl; told = λ e. poly_or_unit e }))
    (to_some
    (past_implicit plain_or_at_at (past_told (λ i. no_term_inserted i.implied) a_number takes_int at_end))
    (record {
      with_result = slot types (Some int_type) unknown.nothing;
      result = with_nothing_ever;
      found = slot types (Some int_type) unknown.nothing;
      parts =
          a_found Inserted 0
          ∷ a_told (record { term = three; type = int_type }) (record { con = var 0; under = 1 }) true ∷ [];
      others = all_told refl;
      all_found = tt;
      items = a_constructor refl (an_argument no_item);
      type_known = refl;
      type = refl;
    })
    (with_items refl))

pub show_of_three : ShowOfThree
unfolding comparison_units
show_of_three =
    of_identifier
    (a_value refl refl tt (record { typed = basis_has; told = λ e. poly_or_unit e }))
    (to_some
    (past_implicit plain_or_at_at
    (past_implied (record { plain = refl; implied = an_instance refl refl })
    (past_told (λ i. no_term_inserted i.implied) a_number takes_int at_end)))
    (record {
      with_result = slot types (Some int_type) unknown.nothing;
      result = with_nothing_ever;
      found = slot types (Some int_type) unknown.nothing;
      parts =
          a_found Inserted 0 ∷ an_implied (record { con = show_of (var 0); under = 1 })
          ∷ a_told (record { term = three; type = int_type }) (record { con = var 0; under = 1 }) true ∷ [];
      others = all_told refl;
      all_found = tt;
      items = a_constructor refl (a_folder_or_instance refl (the_instance refl refl refl refl) (an_argument no_item));
      type_known = refl;
      type = refl;
    })
    (with_items refl))

-- bool begins with no implicit constructor
no_implicit_bool : BeginsWith with_truth bool_type an_implicit → ⊥
unfolding comparison_units
no_implicit_bool (with_implicit form) = basic_or_poly form

pub case_of_truth : CaseOfTruth
unfolding comparison_units
case_of_truth =
    a_case bool_type
    (of_identifier {s = Plain}
    (a_value refl refl tt (record { typed = bound_has refl; told = λ e. basic_or_unit e }))
    (without_implicit refl no_implicit_bool (head_alone refl)))
    (a_branch (bare refl) a_number)
    ((int_type, a_branch (bare refl) a_number), tt)

-- the function that waits: no type is wanted of its parameter at first
no_parameter : {t : Cn} → ParameterType with_function nothing_yet (pat 6 (pat_bind (codes "x"))) t → ⊥
no_parameter (of_pattern own) = no_own own
no_parameter (of_wanted tells_none wanted) = none_or_some wanted

waits : {e : Ex} {t : Cn} → guided guards_hold identity_source with_function nothing_yet e t → ⊥
waits (binder.of_pattern parameter matched body) = no_parameter parameter

function_waits : HasNoType (λ e t. guided guards_hold identity_source with_function nothing_yet e t)
function_waits e t g = waits g

no_parameter_alone : {t : Cn} → ParameterType with_id nothing_ever (pat 6 (pat_bind (codes "x"))) t → ⊥
no_parameter_alone (of_pattern own) = no_own own
no_parameter_alone (of_wanted tells_none wanted) = none_or_some wanted

alone : {e : Ex} {t : Cn} → guided guards_hold identity_source with_id nothing_ever e t → ⊥
alone (binder.of_pattern parameter matched body) = no_parameter_alone parameter

pub function_is_open : FunctionIsOpen
function_is_open e t g = alone g

arrow_not_inserted : IsImplied with_function (arrow (var 0) (var 0)) → ⊥
unfolding comparison_units
arrow_not_inserted (an_instance form class) = arrow_or_application form
arrow_not_inserted (a_folder form folder) = arrow_or_application form

variable_not_inserted : IsImplied with_function (var 0) → ⊥
unfolding comparison_units
variable_not_inserted (an_instance form class) = variable_or_application form
variable_not_inserted (a_folder form folder) = variable_or_application form

-- under x : int
abbrev with_x : Here
with_x = with_values (codes "x" ∷ []) (int_type ∷ []) with_function

nothing_leads : (l : Lead) → Leads with_x Plain int_type int_type l → ⊥
nothing_leads l leads = leads.unwanted leads.begins

x_of_int : guided guards_hold (named (codes "x")) with_x (whole int_type) (said (bound 0)) int_type
unfolding comparison_units
x_of_int =
    of_identifier {s = Plain}
    (a_value refl refl tt (record { typed = bound_has refl; told = λ e. basic_or_unit e }))
    (to_nothing refl (nothing_more nothing_leads)
    (record {
      with_result = unknown.nothing;
      result = with_whole (nothing_open refl);
      found = unknown.nothing;
      parts = [];
      others = all_told refl;
      all_found = tt;
      items = no_item;
      type_known = refl;
      type = refl;
    })
    (head_alone refl))

abbrev identity : Ex
identity = said (fn (pattern anywhere (binds x_name int_type)) int_type (said (bound 0)))

identity_of_int : guided guards_hold identity_source with_function (whole (arrow int_type int_type)) identity
    (arrow int_type int_type)
unfolding comparison_units
identity_of_int = binder.of_pattern (of_wanted (λ u. no_own) refl) (a_variable refl) x_of_int

pub function_that_waits : FunctionThatWaits
unfolding comparison_units
function_that_waits =
    of_identifier
    (a_value refl refl tt (record { typed = bound_has refl; told = λ e. poly_or_unit e }))
    (to_some
    (past_implicit plain_or_at_at
    (past_later (λ i. arrow_not_inserted i.implied) function_waits
    (past_told (λ i. variable_not_inserted i.implied) a_number takes_int at_end)))
    (record {
      with_result = slot types (Some int_type) unknown.nothing;
      result = with_nothing_ever;
      found = slot types (Some int_type) unknown.nothing;
      parts =
          a_found Inserted 0
          ∷ a_told (record { term = identity; type = arrow int_type int_type })
          (record { con = arrow (var 0) (var 0); under = 1 }) true
          ∷ a_told (record { term = three; type = int_type }) (record { con = var 0; under = 1 }) true ∷ [];
      others = one_comes
          (record {
            parameter = record { con = arrow (var 0) (var 0); under = 1 };
            waits = (1, omega arith, refl);
            guided = identity_of_int;
            first = λ j p c l. absurd (below_zero l);
          })
          (another refl (an_unmatched (nothing_open refl) (another refl no_part)))
          (all_told refl);
      all_found = tt;
      items = a_constructor refl (an_argument (an_argument no_item));
      type_known = refl;
      type = refl;
    })
    (with_items refl))

pub text_in_body : TextInBody
text_in_body =
    a_literal (ring_ground (free in_body)) None (of_nodes refl refl refl refl) (the_last some_text (refl, refl))
