-- What is told of two rows that aren't apart, and of a type where a record is wanted.
use Rattle.std.proofs.Common.{◌≡◌, Option, Some, None, Result, Ok, Err, refl, ap, sym, ◌∙◌, subst}
use Rattle.con_terms.specs.Trees.{Cn}
use Rattle.con_terms.specs.declared.place.Place.{Place}
use Rattle.kind_rules.specs.Flaws.{Flw}
use Rattle.kind_rules.specs.Compared.{comparison_units, normal_forms, touch_flaw, forms_flaw}
use Rattle.disjoint_prover.specs.Separation.{first_touch}
use Rattle.core_terms.specs.Trees.{Ex}
use Rattle.core_typing.specs.Scopes.{Sc, normal_of}
use Rattle.core_typing.specs.Compared.{Disjoint}
use Rattle.core_typing.specs.Judged.{flaw_at}
use Rattle.core_typing.specs.Faults.{Fault, at, mismatch, too_large}
use Rattle.core_typing.specs.Own.{NotOf, other_form, large_form, IsRecord, any_record, Meets, they_touch, they_are_large}
use Rattle.core_typing.proofs.DecidedForms.{none_some, only_large}
use Rattle.core_typing.proofs.OneType.{one_value}
pub use Rattle.core_typing.proofs.Excluded.{meets_out}
use Rattle.told_faults.specs.Heads.{Rec, a_record, no_rec}
use Rattle.told_faults.specs.Told.{TypeIs, Picks, OfType}
use Rattle.told_faults.proofs.Heads.{record_view}
use Rattle.told_faults.proofs.Parts.{at_one, form_at, picks_of_type}
use Rattle.judgements.specs.Comparisons.{flaw_told, meets, unless_record, no_record}
use Rattle.node_rules.specs.Records.{record_told}

-- two rows are apart, or a fault is told of them
pub data AreApart (G : Sc) (p : Place) (a b : Cn) : Option Fault → Type 0 where
  they_are : Disjoint G.kinds.guards a b → AreApart G p a b None
  they_meet : {f : Fault}
      → Meets G p a b f
      → AreApart G p a b (Some f)

apart_by : (G : Sc) (p : Place) (a b : Cn) (r : Result (Cn × Cn) Flw) → normal_forms comparison_units a b ≡ r → AreApart G p a b (flaw_told G p (forms_flaw G.kinds.guards r))
apart_by G p a b (Err w) e =
    let i = only_large a b w e in
    subst (λ v. AreApart G p a b (Some (flaw_at p G.called v))) (sym i) (they_meet (they_are_large (e ∙ ap (λ z. Err z) i)))
apart_by G p a b (Ok (m, n)) e = by_touch (first_touch G.kinds.guards m n) refl
  where
    by_touch : (t : Option (Cn × Cn)) → first_touch G.kinds.guards m n ≡ t → AreApart G p a b (flaw_told G p (touch_flaw t))
    by_touch None k = they_are (record { none_touch = ap (forms_flaw G.kinds.guards) e ∙ ap touch_flaw k })
    by_touch (Some (c, d)) k = they_meet (they_touch (ap (forms_flaw G.kinds.guards) e ∙ ap touch_flaw k))

pub are_apart : (G : Sc) (p : Place) (a b : Cn) → AreApart G p a b (meets G p a b)
are_apart G p a b = apart_by G p a b (normal_forms comparison_units a b) refl

pub meets_at : {G : Sc} {p : Place} {a b : Cn} {f : Fault} → Meets G p a b f → at f ≡ p
meets_at (they_touch t) = refl
meets_at (they_are_large l) = refl

pub meets_picked : {G : Sc} {p : Place} {a b : Cn} {o : Option Fault} → AreApart G p a b o → Picks (Meets G p a b) o
meets_picked (they_are d) = λ f x. meets_out d x
meets_picked {G} {p} {a} {b} (they_meet {f = f} x) = at_one (Meets G p a b) p f (λ g y. meets_at y) x

-- the first fault of two rows
pub picks_meets : (G : Sc) (p : Place) (a b : Cn) → Picks (Meets G p a b) (meets G p a b)
picks_meets G p a b = meets_picked (are_apart G p a b)

-- a type where a record is wanted
pub record_out : {G : Sc} {q : Place} {w t n : Cn} {f : Fault} → NotOf IsRecord G q w t f → normal_of t ≡ Some n → IsRecord n → ⊥
record_out (other_form h none) e (r, i) = none (r, one_value h e ∙ i)
record_out (large_form h) e x = none_some h e

row_picks : (G : Sc) (q : Place) (t : Cn) {n : Cn} {s : Option Cn} → normal_of t ≡ Some n → Rec n s → Picks (NotOf IsRecord G q any_record t) (unless_record G q n s)
row_picks G q t e (a_record r) = λ f x. record_out x e (r, refl)
row_picks G q t e (no_rec {n = n} x) = at_one (NotOf IsRecord G q any_record t) q (mismatch q G.called any_record n) (λ g y. form_at y) (other_form e x)

form_picks : (G : Sc) (q : Place) (t : Cn) (o : Option Cn) → normal_of t ≡ o → Picks (NotOf IsRecord G q any_record t) (no_record G q o)
form_picks G q t None e = at_one (NotOf IsRecord G q any_record t) q (too_large q) (λ g y. form_at y) (large_form e)
form_picks G q t (Some n) e = row_picks G q t e (record_view n)

-- of a term's type, where it is found
abbrev pub NoRecord : Sc → Place → Ex → Fault → Type 0
NoRecord G q e = OfType G e (λ t. NotOf IsRecord G q any_record t)

pub picks_no_record : (G : Sc) (q : Place) (e : Ex) (o : Option Cn) → TypeIs G e o → Picks (OfType G e (λ t. NotOf IsRecord G q any_record t)) (record_told G q o)
picks_no_record G q e o v = picks_of_type G e (λ t. NotOf IsRecord G q any_record t) (λ t. no_record G q (normal_of t)) (λ t. form_picks G q t (normal_of t) refl) o v
