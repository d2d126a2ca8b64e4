-- The row that is matched in an example, rule by rule.
use Rattle.std.proofs.Common.{◌≡◌, ℕ, Result, Ok, refl, ap, sym, ◌∙◌}
use Rattle.con_terms.specs.Trees.{types, Cn, name, row, no_pairs, pair}
use Rattle.core_terms.specs.Types.{int_type}
use Rattle.kind_rules.specs.Compared.{comparison_units}
use Rattle.kind_rules.specs.Flaws.{Flw}
use Rattle.guided_terms.specs.Examples.{with_name, RestKeepsItsOrder}
use Rattle.guided_terms.specs.Matching.{IsNamed, named, this_field, later_field, a_literal, the_unknown, no_other, for_unknown, open_part, an_unknown, a_record, some_row, no_field, a_field, another}
use Rattle.core_typing.proofs.Normal.{pairs_are as both_are}

names_differ : {f : Cn} → name 0 ≡ f → name 1 ≡ f → ⊥
names_differ d e = cc

forms_differ : {f : Cn} → ◌≡◌ {A = Result (Cn × Cn) Flw} (Ok (name 0, name 1)) (Ok (f, f)) → ⊥
forms_differ e = let p = both_are e in names_differ (ap (λ (z : Cn × Cn). z.0) p) (ap (λ (z : Cn × Cn). z.1) p)

-- B isn't A
another_name : IsNamed (name 0) (with_name 1 int_type) → ⊥
unfolding comparison_units
another_name (named alike) = forms_differ alike.forms

pub rest_keeps_its_order : RestKeepsItsOrder
unfolding comparison_units
rest_keeps_its_order =
    open_part refl refl (a_record refl refl (open_part refl refl (some_row refl refl refl refl
    (a_field refl (later_field another_name (this_field (record { form = name 0; forms = refl })))
    (open_part refl refl (an_unknown refl)) (another refl no_field))
    (a_literal refl (the_unknown refl no_other))
    (for_unknown refl))))
