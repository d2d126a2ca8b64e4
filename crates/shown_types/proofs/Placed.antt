-- Fields in the order of their names: one more in its place, and all of them.
use Rattle.std.proofs.Common.{◌≡◌, ℕ, zero, suc, Bool, true, false, ◌+◌, List, [], ◌∷◌, ◌++◌, map, take, drop, Option, Some, None, slice_get, if◌then◌else◌, refl, ap, sym, ◌∙◌, arith, append_assoc, drop-cons}
use Rattle.std.specs.List.{insert}
use Rattle.std.proofs.lemmas.List.{append-nil, map-append}
use Rattle.std.proofs.lemmas.Option.{slice_get_within, get_or_from_slice_get}
use Rattle.shown_types.specs.Order.{comes_before, place_in, put_in, put_named, put_unnamed, sorted, unnamed}
use Rattle.shown_types.specs.View.{label}
use Rattle.shown_types.specs.declared.rows.Labelled.{Labelled}

put_one : {A : Type 0} (n : List ℕ) (v : A) (f : List ℕ × A) (fs : List (List ℕ × A)) (b : Bool) → put_in n v fs ≡ insert fs (place_in n fs) (n, v)
    → (if b then f ∷ put_in n v fs else (n, v) ∷ f ∷ fs) ≡ insert (f ∷ fs) (if b then suc (place_in n fs) else 0) (n, v)
put_one n v f fs true h = ap (λ gs. f ∷ gs) h
put_one n v f fs false h = refl

put_is : {A : Type 0} (n : List ℕ) (v : A) (fs : List (List ℕ × A)) → put_in n v fs ≡ insert fs (place_in n fs) (n, v)
put_is n v [] = refl
put_is n v (f ∷ fs) = put_one n v f fs (comes_before f.0 n) (put_is n v fs)

map_take : {A B : Type 0} (f : A → B) (i : ℕ) (xs : List A) → map f (take i xs) ≡ take i (map f xs)
map_take f zero xs = refl
map_take f (suc i) [] = refl
map_take f (suc i) (x ∷ xs) = ap (λ ys. f x ∷ ys) (map_take f i xs)

map_drop : {A B : Type 0} (f : A → B) (i : ℕ) (xs : List A) → map f (drop i xs) ≡ drop i (map f xs)
map_drop f zero xs = refl
map_drop f (suc i) [] = refl
map_drop f (suc i) (x ∷ xs) = map_drop f i xs

map_insert : {A B : Type 0} (f : A → B) (xs : List A) (i : ℕ) (x : A) → map f (insert xs i x) ≡ insert (map f xs) i (f x)
map_insert f xs i x =
    map-append f (take i xs) (x ∷ drop i xs) ∙ ap (λ ys. ys ++ f x ∷ map f (drop i xs)) (map_take f i xs)
    ∙ ap (λ ys. take i (map f xs) ++ f x ∷ ys) (map_drop f i xs)

pub put_at : (f : Labelled) (fs new : List Labelled) (i : ℕ) → new ≡ insert fs i f → i ≡ place_in (label f).0 (map label fs)
    → map label new ≡ put_in (label f).0 (label f).1 (map label fs)
put_at f fs new i h e =
    ap (map label) h ∙ map_insert label fs i f ∙ ap (λ k. insert (map label fs) k (label f)) e
    ∙ sym (put_is (label f).0 (label f).1 (map label fs))

-- the list from an element on
pub from_it : {X : Type 0} (xs : List X) (j k : ℕ) (x : X) → slice_get xs j ≡ Some x → k ≡ j + 1 → drop j xs ≡ x ∷ drop k xs
from_it xs j k x e h =
    drop-cons xs j x (slice_get_within xs j x e) ∙ ap (λ y. y ∷ drop (suc j) xs) (get_or_from_slice_get xs j x x e)
    ∙ ap (λ i. x ∷ drop i xs) (let g : suc j ≡ k = omega (arith, h) in g)

-- all from an element on, in order
pub more_sorted : {P Q : Type 0} (g : P → Option (List ℕ) × Q) (xs : List P) (j k : ℕ) (x : P) (fs new : List (List ℕ × Q))
    → slice_get xs j ≡ Some x → k ≡ j + 1 → fs ≡ sorted (map g (drop k xs)) → new ≡ put_named (g x).0 (g x).1 fs
    → new ≡ sorted (map g (drop j xs))
more_sorted g xs j k x fs new e h was is =
    is ∙ ap (put_named (g x).0 (g x).1) was ∙ ap (λ ys. sorted (map g ys)) (sym (from_it xs j k x e h))

one_apart : {Q : Type 0} (o : Option (List ℕ)) (q : Q) (old rest : List Q) → old ++ put_unnamed o q rest ≡ (old ++ put_unnamed o q []) ++ rest
one_apart None q old rest = sym (append_assoc old (q ∷ []) rest)
one_apart (Some n) q old rest = ap (λ ys. ys ++ rest) (sym (append-nil old))

-- those without a literal name, one more
pub more_unnamed : {P Q : Type 0} (g : P → Option (List ℕ) × Q) (xs : List P) (i k : ℕ) (x : P) (whole old new : List Q)
    → slice_get xs i ≡ Some x → k ≡ i + 1 → whole ≡ old ++ unnamed (map g (drop i xs)) → new ≡ old ++ put_unnamed (g x).0 (g x).1 []
    → whole ≡ new ++ unnamed (map g (drop k xs))
more_unnamed g xs i k x whole old new e h was is =
    was ∙ ap (λ ys. old ++ unnamed (map g ys)) (from_it xs i k x e h)
    ∙ one_apart (g x).0 (g x).1 old (unnamed (map g (drop k xs)))
    ∙ ap (λ ys. ys ++ unnamed (map g (drop k xs))) (sym is)
