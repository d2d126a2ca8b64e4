-- The marks of the greatest closed set.
use Rattle.std.proofs.Common.{◌≡◌, ℕ, ◌<◌, Bool, true, false, List, [], ◌∷◌, length, get_or, Option, Some, None, slice_get, Result, Ok, Err, IfOk, refl, ap, sym, ◌∙◌, subst}
use Rattle.std.specs.List.{Contains}
use Rattle.std.specs.Bool.{Decides}
use Rattle.std.proofs.lemmas.Option.{same_Some, slice_get_within}
use Rattle.con_terms.specs.Trees.{Cn}
use Rattle.core_terms.specs.Trees.{Cd, Dt, arity}
use Rattle.core_terms.specs.Datatypes.{datatype_of}
use Rattle.core_typing.specs.Carried.{CarriedBy, IsClosed, Carried}
use Rattle.carried_types.specs.Built.{is_carrier, carriers_in, both, held_by, holds_by, built, nested, datatype_by, stays, or_no, can_carry}
use Rattle.carried_types.specs.Carriers.{NoneElse, AreCarriers, MarkedAnew, SameMarks, AllMarked}
use Rattle.carried_types.proofs.Both.{both_yes, both_no}
use Rattle.carried_types.proofs.Places.{here, there, not_in_none, one_of, place_is, datatype_placed, carrier_place, carrier_at, carrier_in, in_carrier}
use Rattle.carried_types.proofs.BuiltMeans.{built_yes, built_no}

-- what constructors hold
holds_yes : (P : Cn → Type 0) (f : Cn → Option Bool) → ((t : Cn) → f t ≡ Some true → P t) → (cs : List Cd) → holds_by f cs ≡ Some true →
    (c : Cd) (held : Cn) → Contains cs c → c.holds ≡ Some held → P held
holds_yes P f y [] h c held i e = absurd (not_in_none c i)
holds_yes P f y (d ∷ cs) h c held i e =
    let (p, q) = both_yes (held_by f d.holds) (holds_by f cs) h in
    one_of (P held) d c cs i
    (λ same. y held (sym (ap (held_by f) (ap (λ (z : Cd). z.holds) same ∙ e)) ∙ p))
    (λ later. holds_yes P f y cs q c held later e)

held_no : (P : Type 0) (f : Cn → Option Bool) (o : Option Cn) → held_by f o ≡ Some false → ((held : Cn) → o ≡ Some held → f held ≡ Some false → P) → P
held_no P f None h g = absurd (cc)
held_no P f (Some t) h g = g t refl h

holds_no : (P : Type 0) (f : Cn → Option Bool) (cs : List Cd) → holds_by f cs ≡ Some false →
    ((c : Cd) (held : Cn) → Contains cs c → c.holds ≡ Some held → f held ≡ Some false → P) → P
holds_no P f [] h g = absurd (cc)
holds_no P f (d ∷ cs) h g = both_no P (held_by f d.holds) (holds_by f cs) h
    (λ p. held_no P f d.holds p (λ held e q. g d held (here d cs) e q))
    (λ q. holds_no P f cs q (λ c held i e r. g c held (there d c cs i) e r))

-- marks that stay are a closed set
closed_from : (ds : List Dt) (bs : List Bool) → ((j : ℕ) (d : Dt) → slice_get ds j ≡ Some d → get_or bs j false ≡ true → datatype_by ds bs d ≡ Some true) →
    IsClosed ds (carriers_in ds bs)
closed_from ds bs fixed s m =
    let (j, p, marked) = carrier_place ds bs s (in_carrier ds bs s m) in
    let (d, is, at) = place_is ds s j p in (
      d,
      is,
      λ c held i e. holds_yes (CarriedBy ds (carriers_in ds bs) (arity d)) (built nested ds bs (arity d))
          (built_yes ds bs (carriers_in ds bs) (arity d) (carrier_in ds bs) nested) d.constructors (fixed j d at marked) c held i e,
    )

fixed_at : (ds : List Dt) (old new : List Bool) → MarkedAnew ds old (length ds) new → SameMarks (length ds) old new →
    (j : ℕ) (d : Dt) → slice_get ds j ≡ Some d → get_or old j false ≡ true → datatype_by ds old d ≡ Some true
fixed_at ds old new a same j d at marked =
    let within = slice_get_within ds j d at in
    ap (λ (b : Bool). stays ds old b d) (sym marked) ∙ a j d within at ∙ ap (λ (b : Bool). Some b) (same j within ∙ marked)

-- no closed set loses one
not_lost : (ds : List Dt) (old : List Bool) (S : List ℕ) → ((s : ℕ) → Contains S s → is_carrier ds old s ≡ true) → (d : Dt) (b : Bool) → datatype_by ds old d ≡ Some b →
    ((c : Cd) (held : Cn) → Contains d.constructors c → c.holds ≡ Some held → CarriedBy ds S (arity d) held) → b ≡ true
not_lost ds old S incl d true h held_is = refl
not_lost ds old S incl d false h held_is = absurd (holds_no ⊥ (built nested ds old (arity d)) d.constructors h
    (λ c held i e q. built_no ds old S (arity d) incl nested held q (held_is c held i e)))

pub none_else_next : (ds : List Dt) (old new : List Bool) → NoneElse ds old → MarkedAnew ds old (length ds) new → NoneElse ds new
none_else_next ds old new g a S closed s m =
    let incl = g S closed in
    let (j, p, marked) = carrier_place ds old s (incl s m) in
    let (d, is, at) = place_is ds s j p in
    let (e, is_e, held_is) = closed s m in
    let same : d ≡ e = same_Some d e (sym is ∙ is_e) in
    let stay : datatype_by ds old e ≡ Some (get_or new j false) =
    ap (datatype_by ds old) (sym same) ∙ ap (λ (b : Bool). stays ds old b d) (sym marked) ∙ a j d (slice_get_within ds j d at) at in
    carrier_at ds new s j p (not_lost ds old S incl e (get_or new j false) stay held_is)

pub none_else_first : (ds : List Dt) (bs : List Bool) → AllMarked (length ds) bs → NoneElse ds bs
none_else_first ds bs all S closed s m =
    let (d, is, held_is) = closed s m in
    let (j, p) = datatype_placed ds s d is in
    let (e, is_e, at) = place_is ds s j p in
    carrier_at ds bs s j p (all j (slice_get_within ds j e at))

pub settled : (ds : List Dt) (old new : List Bool) → NoneElse ds old → MarkedAnew ds old (length ds) new → SameMarks (length ds) old new → AreCarriers ds old
settled ds old new g a same = record { closed = closed_from ds old (fixed_at ds old new a same); greatest = g }

-- what a link carries
or_yes : (o : Option Bool) → or_no o ≡ true → o ≡ Some true
or_yes None h = absurd (cc)
or_yes (Some b) h = ap (λ (z : Bool). Some z) h

pub carried_is_carried : (ds : List Dt) (bs : List Bool) (t : Cn) → AreCarriers ds bs → can_carry ds bs t ≡ true → Carried ds t
carried_is_carried ds bs t a h = (carriers_in ds bs, a.closed, built_yes ds bs (carriers_in ds bs) 0 (carrier_in ds bs) nested t (or_yes (built nested ds bs 0 t) h))

pub carried_decided : (ds : List Dt) (bs : List Bool) (t : Cn) (r : Bool) → built nested ds bs 0 t ≡ Some r → AreCarriers ds bs → Decides r (Carried ds t)
carried_decided ds bs t true h a = (λ _. (carriers_in ds bs, a.closed, built_yes ds bs (carriers_in ds bs) 0 (carrier_in ds bs) nested t h), λ _. refl)
carried_decided ds bs t false h a = (λ e. absurd (cc), λ c. absurd (built_no ds bs c.0 0 (a.greatest c.0 c.1) nested t h c.2))

pub carried_if_ok : {E : Type 0} (ds : List Dt) (bs : List Bool) (t : Cn) (r : Result Bool E) → IfOk r (λ b. built nested ds bs 0 t ≡ Some b) →
    IfOk r (λ b. AreCarriers ds bs → Decides b (Carried ds t))
carried_if_ok ds bs t (Ok b) h = carried_decided ds bs t b h
carried_if_ok ds bs t (Err e) h = tt
