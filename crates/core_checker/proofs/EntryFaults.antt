-- What is told of the entries of a list, one after another.
use Rattle.std.proofs.Common.{◌≡◌, ℕ, zero, suc, ◌+◌, ◌<◌, ◌≤◌, List, length, Option, Some, None, slice_get, get_or, refl, ap, sym, ◌∙◌, subst, arith, ◌⊎◌, inl, inr}
use Rattle.std.proofs.lemmas.Option.{same_Some, slice_get_within, slice_get_read}
use Rattle.con_terms.specs.declared.place.Place.{Place}
use Rattle.link_router.specs.Calls.{Ent, Rts}
use Rattle.core_terms.specs.Trees.{Pg}
use Rattle.core_typing.specs.Entries.{RoutesOf}
use Rattle.core_typing.specs.Faults.{Fault, redeclared, twice_entry}
use Rattle.told_faults.specs.Computed.{first}
use Rattle.told_faults.specs.Told.{Picks, Or, or_first, or_second}
use Rattle.told_faults.proofs.Verdict.{picks_as, picks_two}
use Rattle.told_terms.proofs.Beside.{picks_alone}
use Rattle.core_checker.specs.Twice.{Twice, CalledAt, NameAt, ToldTwice, told_twice, ToldBefore, told_before, SecondEntry, all_places}
use Rattle.core_checker.proofs.EntriesApart.{entries_pick}
use Rattle.core_checker.proofs.EntryPlaces.{places_are}

-- where the value stands that an entry calls
pub is_called_at : (places : List Place) (callees : List ℕ) (n i : ℕ) (q : Place) → n < length callees → i ≡ get_or callees n i → i < length places → q ≡ get_or places i q → CalledAt places callees n q
is_called_at places callees n i q h e k f = (i, slice_get_read callees (length callees) n i refl h e, slice_get_read places (length places) i q refl k f)

-- one fault is told of an entry
one_place : (places : List Place) (callees : List ℕ) (n i : ℕ) (q r : Place) → slice_get callees n ≡ Some i → slice_get places i ≡ Some r → CalledAt places callees n q → r ≡ q
one_place places callees n i q r h k (j, g, l) =
    let e : i ≡ j = same_Some i j (sym h ∙ g) in
    same_Some r q (sym k ∙ ap (slice_get places) e ∙ l)

one_told : (es : List Ent) (places : List Place) (callees : List ℕ) (n : ℕ) (q : Place) (name : List (List ℕ)) → CalledAt places callees n q → NameAt es n name → (f : Fault) → ToldTwice es places callees n f → f ≡ redeclared q (twice_entry name)
one_told es places callees n q name c h f (told_twice {e = e} {i = i} {q = r} w g k l) =
    ap (λ (z : Place). redeclared z (twice_entry e.name)) (one_place places callees n i q r k l c)
    ∙ ap (λ (z : List (List ℕ)). redeclared q (twice_entry z)) (sym (h e g))

is_told : (es : List Ent) (places : List Place) (callees : List ℕ) (n : ℕ) (q : Place) (name : List (List ℕ)) → Twice es n → CalledAt places callees n q → NameAt es n name → ToldTwice es places callees n (redeclared q (twice_entry name))
is_told es places callees n q name (m, a, b, l, g, k, s) (i, h, at) named =
    subst (λ (z : List (List ℕ)). ToldTwice es places callees n (redeclared q (twice_entry z))) (sym (named b k)) (told_twice {e = b} (m, a, b, l, g, k, s) k h at)

pub picks_twice : (es : List Ent) (places : List Place) (callees : List ℕ) (n : ℕ) (q : Place) (name : List (List ℕ)) → Twice es n → CalledAt places callees n q → NameAt es n name → Picks (ToldTwice es places callees n) (Some (redeclared q (twice_entry name)))
picks_twice es places callees n q name w c h =
    picks_alone (ToldTwice es places callees n) (redeclared q (twice_entry name)) (is_told es places callees n q name w c h) (one_told es places callees n q name c h)

-- or none
is_twice_told : (es : List Ent) (places : List Place) (callees : List ℕ) (n : ℕ) (f : Fault) → ToldTwice es places callees n f → Twice es n
is_twice_told es places callees n f (told_twice w g k l) = w

pub picks_once : (es : List Ent) (places : List Place) (callees : List ℕ) (n : ℕ) → (Twice es n → ⊥) → Picks (ToldTwice es places callees n) None
picks_once es places callees n h = λ f x. h (is_twice_told es places callees n f x)

-- of those before the first
pub none_before : (es : List Ent) (places : List Place) (callees : List ℕ) → Picks (ToldBefore es places callees 0) None
none_before es places callees = never
  where
    never : (f : Fault) → ToldBefore es places callees 0 f → ⊥
    never f (told_before l x) = omega (arith, l)

-- and of one more
pub below : (n j : ℕ) → n < j + 1 → (n < j) ⊎ (n ≡ j)
below zero zero h = inr refl
below zero (suc j) h = inl (omega arith)
below (suc n) zero h = absurd (omega (arith, h))
below (suc n) (suc j) h = elim (below n j (omega (arith, h))) [ inl l ↦ inl (omega (arith, l)) | inr e ↦ inr (ap suc e) ]

pub one_more : (es : List Ent) (places : List Place) (callees : List ℕ) (j : ℕ) (k l o : Option Fault) → o ≡ first k l → Picks (ToldBefore es places callees j) k → Picks (ToldTwice es places callees j) l → Picks (ToldBefore es places callees (j + 1)) o
one_more es places callees j k l o e h i =
    subst (Picks (ToldBefore es places callees (j + 1))) (sym e)
    (picks_as (Or (ToldBefore es places callees j) (ToldTwice es places callees j)) (ToldBefore es places callees (j + 1)) (first k l) there back
    (picks_two (ToldBefore es places callees j) (ToldTwice es places callees j) k l h i))
  where
    there : (f : Fault) → Or (ToldBefore es places callees j) (ToldTwice es places callees j) f → ToldBefore es places callees (j + 1) f
    there f (or_first (told_before {n = n} m x)) = told_before {n = n} (omega (arith, m)) x
    there f (or_second x) = told_before {n = j} (omega arith) x

    by_place : (f : Fault) (n : ℕ) → (n < j) ⊎ (n ≡ j) → ToldTwice es places callees n f → Or (ToldBefore es places callees j) (ToldTwice es places callees j) f
    by_place f n (inl m) x = or_first (told_before {n = n} m x)
    by_place f n (inr m) x = or_second (subst (λ (z : ℕ). ToldTwice es places callees z f) m x)

    back : (f : Fault) → ToldBefore es places callees (j + 1) f → Or (ToldBefore es places callees j) (ToldTwice es places callees j) f
    back f (told_before {n = n} m x) = by_place f n (below n j m) x

-- of all
within : (es : List Ent) (places : List Place) (callees : List ℕ) (n : ℕ) (f : Fault) → ToldTwice es places callees n f → n < length es
within es places callees n f (told_twice {e = e} w g k l) = slice_get_within es n e g

pub all_told : (es : List Ent) (places : List Place) (callees : List ℕ) (j : ℕ) (o : Option Fault) → length es ≤ j → Picks (ToldBefore es places callees j) o → Picks (ToldBefore es places callees (length es)) o
all_told es places callees j o h = picks_as (ToldBefore es places callees j) (ToldBefore es places callees (length es)) o there back
  where
    there : (f : Fault) → ToldBefore es places callees j f → ToldBefore es places callees (length es) f
    there f (told_before {n = n} l x) = told_before {n = n} (within es places callees n f x) x

    back : (f : Fault) → ToldBefore es places callees (length es) f → ToldBefore es places callees j f
    back f (told_before {n = n} l x) = told_before {n = n} (omega (arith, l, h)) x

-- of a program's
pub entries_all : (p : Pg) (r : Rts) (callees : List ℕ) (places : List Place) (j : ℕ) (o : Option Fault) → RoutesOf p r callees → places ≡ all_places p.decls → length r.entries ≤ j →
    Picks (ToldBefore r.entries places callees j) o → Picks (SecondEntry p) o
entries_all p r callees places j o routes e l h =
    entries_pick p r callees places o routes (e ∙ places_are p.decls) (all_told r.entries places callees j o l h)
