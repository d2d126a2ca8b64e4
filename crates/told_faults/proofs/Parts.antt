-- What comparisons, kinds and heads of types tell.
use Rattle.std.proofs.Common.{◌≡◌, Bool, true, false, Option, Some, None, Result, Ok, Err, ◌⊎◌, inl, inr, if◌then◌else◌, refl, ap, sym, ◌∙◌, subst}
use Rattle.con_terms.specs.Trees.{Kd, Cn}
use Rattle.con_terms.specs.declared.place.Place.{Place}
use Rattle.row_normal.specs.SameTree.{cn_eq}
use Rattle.row_normal.proofs.SameTrees.{cn_eq_same, cn_eq_refl}
use Rattle.kind_rules.specs.Flaws.{Flw}
use Rattle.kind_rules.specs.Flaws as flaw
use Rattle.kind_rules.specs.Kinding.{judged_at}
use Rattle.kind_rules.specs.Compared.{comparison_units, normal_forms}
use Rattle.core_terms.specs.Trees.{Ex}
use Rattle.core_typing.specs.Scopes.{Sc}
use Rattle.core_typing.specs.Found.{Found}
use Rattle.core_typing.specs.Judged.{HasKind, LacksKind, lacks, flaw_at}
use Rattle.core_typing.specs.Faults.{Fault, at, Earlier, mismatch}
use Rattle.core_typing.specs.Own.{Wants, other, large}
use Rattle.core_typing.proofs.DecidedForms.{only_large, kind_found}
use Rattle.core_typing.proofs.Excluded.{wants_out, kind_out}
use Rattle.core_typing.proofs.OneType.{one_found}
use Rattle.told_faults.specs.Computed.{flawed, differing, wants, on_type}
use Rattle.told_faults.specs.Heads.{Wanted, agree, disagree, Kindly, kindly, unkind}
use Rattle.told_faults.specs.Told.{TypeIs, Picks, OfType}
use Rattle.told_faults.proofs.Ordering.{not_itself}
use Rattle.told_faults.proofs.Verdict.{picks_as}
pub use Rattle.core_typing.proofs.ExampleFaults.{wants_at, form_at, flaw_place as flaw_stands, kind_at as lacks_at}

pub same_type : {G : Sc} {e : Ex} {t u : Cn} (P : Cn → Type 0) → Found G e t → Found G e u → P u → P t
same_type P h k x = subst P (one_found k h) x

pub picks_of_type : (G : Sc) (e : Ex) (P : Cn → Fault → Type 0) (F : Cn → Option Fault) → ((t : Cn) → Picks (P t) (F t)) → (o : Option Cn) → TypeIs G e o → Picks (OfType G e P) (on_type o F)
picks_of_type G e P F h None v = none
  where
    none : (f : Fault) → OfType G e P f → ⊥
    none f (t, x, y) = v t x
picks_of_type G e P F h (Some t) v = picks_as (P t) (OfType G e P) (F t) there back (h t)
  where
    there : (f : Fault) → P t f → OfType G e P f
    there f x = (t, v, x)

    back : (f : Fault) → OfType G e P f → P t f
    back f (u, x, y) = same_type (λ z. P z f) v x y

-- faults that all stand at one place
pub at_one : (P : Fault → Type 0) (p : Place) (f : Fault) → ((g : Fault) → P g → at g ≡ p) → P f → Picks P (Some f)
at_one P p f all x = (x, λ g y e. not_itself (at f) (subst (λ q. Earlier q (at f)) (all g y ∙ sym (all f x)) e))

-- comparison
not_same : (c d : Cn) → cn_eq c d ≡ false → c ≡ d → ⊥
not_same c d h e = let k : cn_eq c d ≡ true = ap (cn_eq c) (sym e) ∙ cn_eq_refl c in cc

wanted_by : (G : Sc) (p : Place) (t u : Cn) (r : Result (Cn × Cn) Flw) → normal_forms comparison_units t u ≡ r → Wanted G p t u (differing G p r)
wanted_by G p t u (Err w) e = disagree (large (e ∙ ap (λ z. Err z) (only_large t u w e)))
wanted_by G p t u (Ok (m, n)) e = by_test (cn_eq m n) refl
  where
    by_test : (b : Bool) → cn_eq m n ≡ b → Wanted G p t u (if b then None else Some (mismatch p G.called m n))
    by_test true k = agree (record { form = m; forms = e ∙ ap (λ z. Ok (m, z)) (sym (cn_eq_same m n k)) })
    by_test false k = disagree (other (record { normal = e; differ = not_same m n k }))

pub wanted : (G : Sc) (p : Place) (t u : Cn) → Wanted G p t u (wants G p t u)
wanted G p t u = wanted_by G p t u (normal_forms comparison_units t u) refl

pub picks_wants : (G : Sc) (p : Place) (t u : Cn) → Picks (Wants G p t u) (wants G p t u)
picks_wants G p t u = by_wanted (wants G p t u) (wanted G p t u)
  where
    by_wanted : (o : Option Fault) → Wanted G p t u o → Picks (Wants G p t u) o
    by_wanted None (agree a) = λ f x. wants_out a x
    by_wanted (Some f) (disagree x) = at_one (Wants G p t u) p f (λ g y. wants_at y) x

-- kinds
kind_by : (G : Sc) (c : Cn) (k : Kd) (r : Result Kd Flw) → judged_at G.kinds c k ≡ r → Kindly G c k r
kind_by G c k (Err w) e = unkind e
kind_by G c k (Ok l) e = by_found (kind_found (Ok l) e)
  where
    by_found : HasKind G c k ⊎ ((p : Place) → (f : Fault) × LacksKind G p c k f) → Kindly G c k (Ok l)
    by_found (inl h) = kindly h
    by_found (inr h) = absurd (never (h (record { file = 0; at = 0 })))
      where
        never : (f : Fault) × LacksKind G (record { file = 0; at = 0 }) c k f → ⊥
        never (f, lacks x) = let i = sym e ∙ x in cc

pub kind_is : (G : Sc) (c : Cn) (k : Kd) → Kindly G c k (judged_at G.kinds c k)
kind_is G c k = kind_by G c k (judged_at G.kinds c k) refl

pub picks_flaw : (G : Sc) (p : Place) (c : Cn) (k : Kd) (r : Result Kd Flw) → Kindly G c k r → Picks (LacksKind G p c k) (flawed G p r)
picks_flaw G p c k (Ok l) (kindly h) = λ f x. kind_out h x
picks_flaw G p c k (Err w) (unkind e) = at_one (LacksKind G p c k) p (flaw_at p G.called w) (λ g y. lacks_at y) (lacks e)
