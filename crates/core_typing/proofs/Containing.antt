-- What lists contain.
use Rattle.std.proofs.Common.{◌≡◌, ℕ, zero, suc, ◌<◌, ◌⊎◌, inl, inr, List, [], ◌∷◌, length, map, get_or, ap, ◌∙◌, arith}
use Rattle.std.specs.List.{Contains, All}
use Rattle.std.proofs.lemmas.List.{length-map, get_or-map}
use Rattle.std.proofs.lemmas.Option.{slice_get-get_or, get_or_from_slice_get}

pub nothing_in : {X : Type 0} {P : Type 0} (x : X) → Contains [] x → P
nothing_in x c = absurd (omega (arith, c.1))

-- an element of a list is its head or stands behind it
pub head_or : {X : Type 0} (x y : X) (xs : List X) → Contains (y ∷ xs) x → (y ≡ x) ⊎ Contains xs x
head_or x y xs (zero, h, e) = inl e
head_or x y xs (suc i, h, e) = inr (i, omega (arith, h), e)

pub at_place : {X : Type 0} (xs : List X) (i : ℕ) (d : X) → i < length xs → Contains xs (get_or xs i d)
at_place xs i d h = (i, h, get_or_from_slice_get xs i (get_or xs i d) (get_or xs i d) (slice_get-get_or xs i d h))

pub contains_map : {X Y : Type 0} (f : X → Y) (xs : List X) (x : X) → Contains xs x → Contains (map f xs) (f x)
contains_map f xs x c = (c.0, omega (arith, c.1, length-map xs f), get_or-map f xs c.0 x (f x) c.1 ∙ ap f c.2)

-- what holds of each element holds of all
pub all_of : {X : Type 0} (P : X → Type 0) (xs : List X) → ((x : X) → Contains xs x → P x) → All P xs
all_of P xs h = λ k d i. h (get_or xs k d) (at_place xs k d i)
