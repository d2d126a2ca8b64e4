-- The folder that a call inserts in an example, rule by rule.
use Rattle.std.proofs.Common.{◌≡◌, ℕ, true, [], ◌∷◌, Some, None, refl, arith}
use Rattle.std.specs.Prelude.{codes}
use Rattle.con_terms.specs.Trees.{types, row_of, names, Cn, var, record_of, app, basic, name, row, no_pairs, pair}
use Rattle.con_terms.specs.Kinded.{of_name}
use Rattle.core_terms.specs.declared.exp.ConOrigin.TheVariants.{Inserted}
use Rattle.core_terms.specs.Trees.{Ex, text, fields_of, field, no_fields}
use Rattle.core_terms.specs.Types.{int_type, string_type}
use Rattle.core_typing.specs.Found.{bound_has}
use Rattle.kind_rules.specs.Compared.{comparison_units}
use Rattle.plain_tree.specs.Trees.{exp, exp_rec, exp_words, more_fields}
use Rattle.plain_tree.specs.Trees as plain
use Rattle.unknowns.specs.Unknowns.{slot}
use Rattle.unknowns.specs.Unknowns as unknown
use Rattle.guided_terms.specs.Calls.{a_constructor, a_folder_or_instance, an_argument, no_item, with_items, guards_hold, to_some, of_identifier}
use Rattle.guided_terms.specs.Examples.{with_count, said, anywhere, three, digit, a_name, b_name, b_and_a, folder_symbol, label_of, FolderInWrittenOrder}
use Rattle.guided_terms.specs.Guided.{guided, a_number, some_words}
use Rattle.guided_terms.specs.Heads.{a_value}
use Rattle.guided_terms.specs.Heres.{IsCon}
use Rattle.guided_terms.specs.Implied.{IsImplied, an_instance, a_folder, the_folder}
use Rattle.guided_terms.specs.Matching.{Tries, fits, open_part, an_unknown}
use Rattle.guided_terms.specs.Matching as matching
use Rattle.guided_terms.specs.Parts.{a_found, an_implied, a_told}
use Rattle.guided_terms.specs.Records as records
use Rattle.guided_terms.specs.Settles.{with_nothing_ever, all_told}
use Rattle.guided_terms.specs.Walks.{at_end, past_implicit, past_implied, past_told}
use Rattle.guided_terms.specs.Wanted.{nothing_yet}
use Rattle.guided_terms.proofs.ExampleCalls.{plain_or_at_at, poly_or_unit}

record_or_application : {a f c : Cn} → Some (record_of a) ≡ Some (app f c) → ⊥
record_or_application e = cc

record_not_inserted : IsImplied with_count (record_of (var 0)) → ⊥
unfolding comparison_units
record_not_inserted (an_instance form class) = record_or_application form
record_not_inserted (a_folder form of_kind) = record_or_application form

-- the names of the fields
b_is_read : IsCon with_count (label_of (codes "B")) names (name b_name)
b_is_read = record { reads = refl; kinds = λ d r k. of_name }

a_is_read : IsCon with_count (label_of (codes "A")) names (name a_name)
a_is_read = record { reads = refl; kinds = λ d r k. of_name }

-- {B = 3, A = "a"}
abbrev two_fields : Ex
two_fields = said (fields_of (field anywhere (name b_name) three (field anywhere (name a_name) (said (text (codes "a")))
    no_fields)))

fields_tell : guided guards_hold (exp 7 (exp_rec
    (more_fields (plain.field 8 (label_of (codes "B")) (digit 3))
    (more_fields (plain.field 9 (label_of (codes "A")) (exp 10 (exp_words (codes "a")))) plain.no_fields))))
    with_count nothing_yet two_fields (record_of (row types b_and_a))
fields_tell = records.a_record
    (refl, record { name = b_is_read; guided = a_number }, (refl, record { name = a_is_read; guided = some_words }, tt))

takes_row : Tries (slot (row_of types) None unknown.nothing) (record_of (var 0)) (record_of (row types b_and_a))
    (slot (row_of types) (Some (row types b_and_a)) unknown.nothing) true
unfolding comparison_units
takes_row = fits refl (record {
  matched = open_part refl refl (matching.a_record refl refl (open_part refl refl (an_unknown refl)));
  all_found = refl;
  alike = record {
    form = record_of (row types (pair (name a_name) string_type (pair (name b_name) int_type no_pairs)));
    forms = refl;
  };
})

pub folder_in_written_order : FolderInWrittenOrder
unfolding comparison_units
folder_in_written_order =
    of_identifier
    (a_value refl refl tt (record { typed = bound_has refl; told = λ e. poly_or_unit e }))
    (to_some
    (past_implicit plain_or_at_at
    (past_implied (record { plain = refl; implied = a_folder refl (0, omega arith, refl) })
    (past_told (λ i. record_not_inserted i.implied) fields_tell takes_row at_end)))
    (record {
      with_result = slot (row_of types) (Some (row types b_and_a)) unknown.nothing;
      result = with_nothing_ever;
      found = slot (row_of types) (Some (row types b_and_a)) unknown.nothing;
      parts =
          a_found Inserted 0 ∷ an_implied (record { con = app (basic folder_symbol) (var 0); under = 1 })
          ∷ a_told (record { term = two_fields; type = record_of (row types b_and_a) })
          (record { con = record_of (var 0); under = 1 }) true ∷ [];
      others = all_told refl;
      all_found = tt;
      items = a_constructor refl (a_folder_or_instance refl (the_folder refl (0, omega arith, refl) refl refl)
          (an_argument no_item));
      type_known = refl;
      type = refl;
    })
    (with_items refl))
