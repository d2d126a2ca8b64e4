-- What the examples have at fault, and that nothing stands before it.
use Rattle.std.proofs.Common.{◌≡◌, ℕ, ℤ, Bool, false, [], Option, Some, None, Ok, Err, refl, arith, sym, ◌∙◌, subst, ◌⊎◌, inl, inr, List}
use Rattle.std.specs.Prelude.{slice_get}
use Rattle.con_terms.specs.Trees.{Kd, Cn, var, record_of, cat, name, no_pairs, pair}
use Rattle.con_terms.specs.declared.place.Place.{Place}
use Rattle.core_terms.specs.Types.{int_type, type_row}
use Rattle.core_terms.specs.Trees.{Ex, Fo, node, bound, number, ascribed, concat, fields_of, field, no_fields}
use Rattle.core_typing.specs.Scopes.{Sc, normal_of}
use Rattle.core_typing.specs.Faults.{Fault, not_disjoint, at, Earlier}
use Rattle.kind_rules.specs.Flaws.{Flw, unbound_variable, unbound_basic, kinds_differ, pieces_touch, too_large}
use Rattle.kind_rules.specs.Compared.{comparison_units}
use Rattle.core_typing.specs.Judged.{has, LacksKind, lacks, flaw_at}
use Rattle.core_typing.specs.Compared.{Differ, Touch}
use Rattle.core_typing.specs.Found.{Found, bound_has, number_has, fields_have, no_field_found, field_found}
use Rattle.core_typing.specs.Own.{Own, Wants, other, large, NotOf, other_form, large_form, Meets, they_touch, they_are_large, place_of, no_variable, written_kind, not_as_written, left_no_record, right_no_record, clash, a_field, same_names, field_kind, later_field}
use Rattle.core_typing.specs.Tells.{tells_own, Sub, with_type, left, right, field_term, this_field, past_field, Fails, itself, inside}
use Rattle.core_typing.specs.ExampleTerms.{byte, a_name, basis_scope}
use Rattle.core_typing.specs.ExampleTypings.{MoreFieldsMismatch, SameNamesClash}
pub use Rattle.link_router.proofs.ReadBack.{no_other as no_some}

pub not_before_itself : (p : Place) → Earlier p p → ⊥
not_before_itself p (inl h) = absurd (omega (arith, h))
not_before_itself p (inr h) = absurd (omega (arith, h.1))

abbrev IsNone : {X : Type 0} → Option X → Type 0
IsNone None = Unit {0}
IsNone (Some x) = ⊥

pub not_before : (f : Fault) {p : Place} → at f ≡ p → Earlier (at f) p → ⊥
not_before f {p} e h = not_before_itself p (subst (λ q. Earlier q p) e h)

-- where faults of each kind stand
pub wants_at : {G : Sc} {p : Place} {t u : Cn} {f : Fault} → Wants G p t u f → at f ≡ p
wants_at (other d) = refl
wants_at (large d) = refl

pub form_at : {F : Cn → Type 0} {G : Sc} {p : Place} {w t : Cn} {f : Fault} → NotOf F G p w t f → at f ≡ p
form_at (other_form n d) = refl
form_at (large_form n) = refl

pub meets_at : {G : Sc} {p : Place} {a b : Cn} {f : Fault} → Meets G p a b f → at f ≡ p
meets_at (they_touch t) = refl
meets_at (they_are_large l) = refl

pub flaw_place : (p : Place) (xs : List ℕ) (w : Flw) → at (flaw_at p xs w) ≡ p
flaw_place p xs (unbound_variable i) = refl
flaw_place p xs (unbound_basic s) = refl
flaw_place p xs (kinds_differ k l) = refl
flaw_place p xs (pieces_touch c d) = refl
flaw_place p xs too_large = refl

pub kind_at : {G : Sc} {p : Place} {c : Cn} {k : Kd} {f : Fault} → LacksKind G p c k f → at f ≡ p
kind_at {G} {p = p} (lacks {w = w} e) = flaw_place p G.called w

-- what is found is no flaw
pub no_flaw : {k : Kd} {w : Flw} → Ok k ≡ Err w → ⊥
no_flaw e = cc

ascribed_at : {G : Sc} {p : Place} {a b : Bool} {e : Fo} {t : Cn} {f : Fault} → Own G (node p a (ascribed (node p b e) t)) f → at f ≡ p
ascribed_at (written_kind h) = kind_at h
ascribed_at (not_as_written k g w) = wants_at w

-- a variable that is bound has no fault, and neither has a number
pub bound_is_well : {G : Sc} {p : Place} {a : Bool} {i : ℕ} {t : Cn} {f : Fault} → slice_get G.locals i ≡ Some t → Fails G (node p a (bound i)) f → ⊥
bound_is_well s (itself (no_variable n)) = no_some (sym n ∙ s)
bound_is_well s (inside h g) = elim h [ ]

number_is_well : {G : Sc} {p : Place} {a : Bool} {z : ℤ} {f : Fault} → Fails G (node p a (number z)) f → ⊥
number_is_well (itself o) = elim o [ ]
number_is_well (inside s g) = elim s [ ]

-- {A = z}
pub literal_is_well : {p q r : Place} {z : ℤ} {f : Fault} → Fails basis_scope (node p false (fields_of (field q (name a_name) (node r false (number z)) no_fields))) f → ⊥
literal_is_well (itself (a_field (field_kind (lacks e)))) = no_flaw e
literal_is_well (itself (a_field (later_field h))) = elim h [ ]
literal_is_well (itself (same_names (field_found k number_has no_field_found) (lacks e))) = no_flaw e
literal_is_well (inside (field_term this_field) g) = number_is_well g
literal_is_well (inside (field_term (past_field h)) g) = elim h [ ]

-- $ r wanted, $ ( r ++ s ) found
more_fields : Cn
more_fields = record_of (cat (var 1) (var 0))

not_one_row : record_of (var 1) ≡ record_of (cat (var 1) (var 0)) → ⊥
not_one_row e = subst is_var e tt
  where
    is_var : Cn → Type 0
    is_var (record_of (var i)) = Unit {0}
    is_var _ = ⊥

they_differ : Differ (record_of (var 1)) (record_of (cat (var 1) (var 0))) (record_of (var 1)) (record_of (cat (var 1) (var 0)))
unfolding comparison_units
they_differ = record { normal = refl; differ = not_one_row }

after_ascribed : {G : Sc} {p : Place} {a : Bool} {e : Ex} {t : Cn} → ((f : Fault) → Fails G e f → ⊥) → (q : Place) (H : Sc) (c : Ex) (f : Fault) → Sub G (node p a (ascribed e t)) H c → Fails H c f → Earlier q (at f)
after_ascribed well q H c f with_type g = absurd (well f g)

pub more_fields_told : MoreFieldsMismatch
more_fields_told =
    tells_own (not_as_written (has refl) (bound_has refl) (other they_differ))
    (λ f o h. not_before f (ascribed_at o) h)
    (after_ascribed (λ f g. bound_is_well refl g) (byte 65))

-- #A and #A
pub concat_at : {G : Sc} {p : Place} {a : Bool} {e d : Ex} {f : Fault} → Own G (node p a (concat e d)) f → (at f ≡ p) ⊎ ((at f ≡ place_of e) ⊎ (at f ≡ place_of d))
concat_at (left_no_record h k) = inr (inl (form_at k))
concat_at (right_no_record h k) = inr (inr (form_at k))
concat_at (clash h k l m n) = inl (meets_at n)

later_is_not_before : Earlier (byte 19) (byte 8) → ⊥
later_is_not_before (inl h) = absurd (omega (arith, h))
later_is_not_before (inr h) = absurd (omega (arith, h.1))

pub not_before_clash : (f : Fault) → (at f ≡ byte 8) ⊎ ((at f ≡ byte 8) ⊎ (at f ≡ byte 19)) → Earlier (at f) (byte 8) → ⊥
not_before_clash f (inl e) h = not_before f e h
not_before_clash f (inr (inl e)) h = not_before f e h
not_before_clash f (inr (inr e)) h = later_is_not_before (subst (λ q. Earlier q (byte 8)) e h)

after_concat : {G : Sc} {p : Place} {a : Bool} {e d : Ex} → ((f : Fault) → Fails G e f → ⊥) → ((f : Fault) → Fails G d f → ⊥) → (q : Place) (H : Sc) (c : Ex) (f : Fault) → Sub G (node p a (concat e d)) H c → Fails H c f → Earlier q (at f)
after_concat l r q H c f left g = absurd (l f g)
after_concat l r q H c f right g = absurd (r f g)

a_record_found : {p q r : Place} {z : ℤ} → Found basis_scope (node p false (fields_of (field q (name a_name) (node r false (number z)) no_fields))) (record_of (type_row (pair (name a_name) int_type no_pairs)))
a_record_found = fields_have (field_found (has refl) number_has no_field_found) (has refl)

they_clash : Touch [] (type_row (pair (name a_name) int_type no_pairs)) (type_row (pair (name a_name) int_type no_pairs)) (name a_name) (name a_name)
unfolding comparison_units
they_clash = refl

its_form : normal_of (record_of (type_row (pair (name a_name) int_type no_pairs))) ≡ Some (record_of (type_row (pair (name a_name) int_type no_pairs)))
unfolding comparison_units
its_form = refl

they_meet : Meets basis_scope (byte 8) (type_row (pair (name a_name) int_type no_pairs)) (type_row (pair (name a_name) int_type no_pairs)) (not_disjoint (byte 8) [] (name a_name) (name a_name))
they_meet = they_touch {a = type_row (pair (name a_name) int_type no_pairs)} {b = type_row (pair (name a_name) int_type no_pairs)} they_clash

pub clash_told : SameNamesClash
clash_told =
    tells_own (clash a_record_found a_record_found its_form its_form they_meet)
    (λ f o h. not_before_clash f (concat_at o) h)
    (after_concat (λ f g. literal_is_well g) (λ f g. literal_is_well g) (byte 8))
