-- Datatypes by their symbols.
use Rattle.std.proofs.Common.{◌≡◌, ℕ, zero, suc, ◌+◌, ◌<◌, ◌==◌, Bool, true, false, cond, List, [], ◌∷◌, length, map, get_or, Option, Some, None, option_map, slice_get, if◌then◌else◌, refl, ap, sym, ◌∙◌, subst, arith}
use Rattle.std.specs.List.{Contains, filter}
use Rattle.std.proofs.lemmas.List.Elements.{filter_passes, All-contains}
use Rattle.std.proofs.lemmas.Bool.{eqb-true}
use Rattle.std.proofs.lemmas.Option.{same_Some}
use Rattle.core_terms.specs.Trees.{Dt}
use Rattle.core_terms.specs.Datatypes.{datatype_of}
use Rattle.carried_types.specs.Built.{place_of, mark_at, is_carrier, symbols_in, carriers_in}

-- elements, one after another
pub here : {X : Type 0} (x : X) (xs : List X) → Contains (x ∷ xs) x
here x xs = (zero, omega arith, refl)

pub there : {X : Type 0} (y x : X) (xs : List X) → Contains xs x → Contains (y ∷ xs) x
there y x xs (k, h, e) = (suc k, omega arith, e)

pub not_in_none : {X : Type 0} (x : X) → Contains [] x → ⊥
not_in_none x (k, h, e) = omega arith

pub one_of : {X : Type 0} (P : Type 0) (y x : X) (xs : List X) → Contains (y ∷ xs) x → (y ≡ x → P) → (Contains xs x → P) → P
one_of P y x xs (zero, h, e) f g = f e
one_of P y x xs (suc k, h, e) f g = g (k, omega arith, e)

-- what a filter keeps
keeps_if : {X : Type 0} (p : X → Bool) (b : Bool) (y x : X) (xs : List X) → Contains (filter p xs) x → Contains (cond b (y ∷ filter p xs) (filter p xs)) x
keeps_if p true y x xs h = there y x (filter p xs) h
keeps_if p false y x xs h = h

keeps_this : {X : Type 0} (p : X → Bool) (b : Bool) (x : X) (xs : List X) → b ≡ true → Contains (cond b (x ∷ filter p xs) (filter p xs)) x
keeps_this p true x xs h = here x (filter p xs)
keeps_this p false x xs h = absurd (cc)

pub kept : {X : Type 0} (p : X → Bool) (xs : List X) (x : X) → Contains xs x → p x ≡ true → Contains (filter p xs) x
kept p [] x c h = absurd (not_in_none x c)
kept {X} p (y ∷ xs) x c h = one_of (Contains (filter p (y ∷ xs)) x) y x xs c
    (λ e. subst (λ (z : X). Contains (cond (p y) (y ∷ filter p xs) (filter p xs)) z) e (keeps_this p (p y) y xs (ap p e ∙ h)))
    (λ d. keeps_if p (p y) y x xs (kept p xs x d h))

pub kept_passes : {X : Type 0} (p : X → Bool) (xs : List X) (x : X) → Contains (filter p xs) x → p x ≡ true
kept_passes p xs x c = All-contains (λ z. p z ≡ true) (filter p xs) x (filter_passes p xs) c

-- the place of a symbol
placed : (P : Type 0) (b : Bool) (o : Option ℕ) (j : ℕ) → (if b then Some 0 else option_map (λ i. suc i) o) ≡ Some j →
    (b ≡ true → 0 ≡ j → P) → (b ≡ false → (i : ℕ) → o ≡ Some i → suc i ≡ j → P) → P
placed P true o j h f g = f refl (same_Some 0 j h)
placed P false None j h f g = absurd (cc)
placed P false (Some i) j h f g = g refl i refl (same_Some (suc i) j h)

pub place_is : (ds : List Dt) (s j : ℕ) → place_of ds s ≡ Some j → (d : Dt) × (datatype_of ds s ≡ Some d) × (slice_get ds j ≡ Some d)
place_is [] s j h = absurd (cc)
place_is (d ∷ ds) s j h = placed ((c : Dt) × (datatype_of (d ∷ ds) s ≡ Some c) × (slice_get (d ∷ ds) j ≡ Some c)) (d.symbol == s) (place_of ds s) j h
    (λ e z. (d, ap (λ (b : Bool). if b then Some d else datatype_of ds s) e, ap (slice_get (d ∷ ds)) (sym z)))
    (λ e i p z. let (c, m, at) = place_is ds s i p in
    (c, ap (λ (b : Bool). if b then Some d else datatype_of ds s) e ∙ m, ap (slice_get (d ∷ ds)) (sym z) ∙ at))

pub symbol_there : (ds : List Dt) (s j : ℕ) → place_of ds s ≡ Some j → Contains (symbols_in ds) s
symbol_there [] s j h = absurd (cc)
symbol_there (d ∷ ds) s j h = placed (Contains (symbols_in (d ∷ ds)) s) (d.symbol == s) (place_of ds s) j h
    (λ e z. subst (λ (x : ℕ). Contains (d.symbol ∷ symbols_in ds) x) (eqb-true d.symbol s e) (here d.symbol (symbols_in ds)))
    (λ e i p z. there d.symbol s (symbols_in ds) (symbol_there ds s i p))

place_next : (b : Bool) (o : Option ℕ) (d c : Dt) (m : Option Dt) → (if b then Some d else m) ≡ Some c → (m ≡ Some c → (i : ℕ) × (o ≡ Some i)) →
    (j : ℕ) × ((if b then Some 0 else option_map (λ i. suc i) o) ≡ Some j)
place_next true o d c m h f = (0, refl)
place_next false o d c m h f = let (i, e) = f h in (suc i, ap (option_map (λ i. suc i)) e)

pub datatype_placed : (ds : List Dt) (s : ℕ) (c : Dt) → datatype_of ds s ≡ Some c → (j : ℕ) × (place_of ds s ≡ Some j)
datatype_placed [] s c h = absurd (cc)
datatype_placed (d ∷ ds) s c h = place_next (d.symbol == s) (place_of ds s) d c (datatype_of ds s) h (λ e. datatype_placed ds s c e)

-- a carrier has a marked place
marked_place : (bs : List Bool) (o : Option ℕ) → mark_at bs o ≡ true → (j : ℕ) × (o ≡ Some j) × (get_or bs j false ≡ true)
marked_place bs None h = absurd (cc)
marked_place bs (Some j) h = (j, refl, h)

pub carrier_place : (ds : List Dt) (bs : List Bool) (s : ℕ) → is_carrier ds bs s ≡ true → (j : ℕ) × (place_of ds s ≡ Some j) × (get_or bs j false ≡ true)
carrier_place ds bs s h = marked_place bs (place_of ds s) h

pub carrier_at : (ds : List Dt) (bs : List Bool) (s j : ℕ) → place_of ds s ≡ Some j → get_or bs j false ≡ true → is_carrier ds bs s ≡ true
carrier_at ds bs s j h m = ap (mark_at bs) h ∙ m

-- the carriers' symbols
pub carrier_in : (ds : List Dt) (bs : List Bool) (s : ℕ) → is_carrier ds bs s ≡ true → Contains (carriers_in ds bs) s
carrier_in ds bs s h =
    let (j, p, m) = carrier_place ds bs s h in
    kept (is_carrier ds bs) (symbols_in ds) s (symbol_there ds s j p) h

pub in_carrier : (ds : List Dt) (bs : List Bool) (s : ℕ) → Contains (carriers_in ds bs) s → is_carrier ds bs s ≡ true
in_carrier ds bs s c = kept_passes (is_carrier ds bs) (symbols_in ds) s c
