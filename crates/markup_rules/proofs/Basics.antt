-- What it means that nothing is told, that a comparison, a kinding and two rows tell nothing.
use Rattle.std.proofs.Common.{◌≡◌, Bool, true, false, ◌&&◌, List, [], ◌∷◌, Option, Some, None, Result, if◌then◌else◌, refl}
pub use Rattle.std.proofs.lemmas.Bool.{or_right}
use Rattle.con_terms.specs.Trees.{Kd, Cn}
use Rattle.con_terms.specs.declared.place.Place.{Place}
use Rattle.kind_rules.specs.Flaws.{Flw}
use Rattle.kind_rules.specs.Kinding.{judged_at}
use Rattle.kind_rules.specs.Compared.{not_apart}
use Rattle.core_terms.specs.Trees.{Ex}
use Rattle.core_typing.specs.Scopes.{Sc}
use Rattle.core_typing.specs.Asks.{CoverAsked}
use Rattle.core_typing.specs.Found.{FoundBy}
use Rattle.core_typing.specs.Faults.{Fault, at}
use Rattle.core_typing.specs.Compared.{Alike, Disjoint}
use Rattle.core_typing.specs.Judged.{HasKind}
pub use Rattle.core_typing.proofs.OneSite.{some_is}
use Rattle.told_faults.specs.Computed.{Jd, sooner, first, flawed, wants}
use Rattle.told_faults.specs.Heads.{Wanted, agree, disagree, Kindly, kindly, unkind}
use Rattle.told_faults.proofs.Parts.{wanted, kind_is}
use Rattle.judgements.specs.Comparisons.{flaw_told, meets}
pub use Rattle.carried_types.proofs.Alike.{alike_is as tested, is_alike as test_holds}
use Rattle.markup_rules.specs.Nodes.{silent, told_after}
use Rattle.markup_rules.specs.Laws.{Founds}

pub some_none : {X : Type 0} {x : X} → Some x ≡ None → ⊥
some_none h = cc

pub none_some : {X : Type 0} {x : X} → None ≡ Some x → ⊥
none_some h = cc

pub false_true : false ≡ true → ⊥
false_true h = cc

pub true_false : true ≡ false → ⊥
true_false h = cc

pub and_left : (a b : Bool) → (a && b) ≡ true → a ≡ true
and_left true b h = refl
and_left false b h = absurd (false_true h)

pub and_right : (a b : Bool) → (a && b) ≡ true → b ≡ true
and_right true b h = h
and_right false b h = absurd (false_true h)

-- of two faults neither is there
by_test : (f g : Fault) (b : Bool) → (if b then Some g else Some f) ≡ None → ⊥
by_test f g true h = some_none h
by_test f g false h = some_none h

pub first_parts : (k l : Option Fault) → first k l ≡ None → (k ≡ None) × (l ≡ None)
first_parts None l h = (refl, h)
first_parts (Some f) None h = absurd (some_none h)
first_parts (Some f) (Some g) h = absurd (by_test f g (sooner (at g) (at f)) h)

pub silent_is : (o : Option Fault) → silent o ≡ true → o ≡ None
silent_is None h = refl
silent_is (Some f) h = absurd (false_true h)

-- comparison
alike_by : {G : Sc} {p : Place} {t u : Cn} {o : Option Fault} → Wanted G p t u o → o ≡ None → Alike t u
alike_by (agree a) h = a
alike_by (disagree x) h = absurd (some_none h)

pub alike : (G : Sc) (p : Place) (t u : Cn) → wants G p t u ≡ None → Alike t u
alike G p t u h = alike_by (wanted G p t u) h

-- kinds
kinded_by : {G : Sc} {c : Cn} {k : Kd} {r : Result Kd Flw} (p : Place) → Kindly G c k r → flawed G p r ≡ None → HasKind G c k
kinded_by p (kindly h) n = h
kinded_by p (unkind e) n = absurd (some_none n)

pub kinded : (G : Sc) (p : Place) (c : Cn) (k : Kd) → flawed G p (judged_at G.kinds c k) ≡ None → HasKind G c k
kinded G p c k h = kinded_by p (kind_is G c k) h

-- rows apart
apart_by : (G : Sc) (p : Place) (o : Option Flw) → flaw_told G p o ≡ None → o ≡ None
apart_by G p None h = refl
apart_by G p (Some w) h = absurd (some_none h)

pub apart : (G : Sc) (p : Place) (a b : Cn) → meets G p a b ≡ None → Disjoint G.kinds.guards a b
apart G p a b h = record { none_touch = apart_by G p (not_apart G.kinds.guards a b) h }

-- terms of which nothing is told: each has the type that is computed for it
abbrev pub Given : CoverAsked → Sc → List Ex → List Jd → Type 0
Given C G [] [] = Unit {0}
Given C G (e ∷ es) (j ∷ js) = ((t : Cn) → j.type ≡ Some t → FoundBy C G e t) × Given C G es js
Given C G [] (j ∷ js) = ⊥
Given C G (e ∷ es) [] = ⊥

told_first : (told : Option Fault) (js : List Jd) → told_after told js ≡ None → told ≡ None
told_first told [] h = h
told_first told (j ∷ js) h = (first_parts told j.told (told_first (first told j.told) js h)).0

pub given : (C : CoverAsked) (G : Sc) (es : List Ex) (js : List Jd) (told : Option Fault) → Founds C G es js → told_after told js ≡ None → Given C G es js
given C G [] [] told x h = tt
given C G (e ∷ es) (j ∷ js) told x h =
    let n : first told j.told ≡ None = told_first (first told j.told) js h in
    (λ t k. x.0 t k (first_parts told j.told n).1, given C G es js (first told j.told) x.1 h)
given C G [] (j ∷ js) told x h = x
given C G (e ∷ es) [] told x h = x
