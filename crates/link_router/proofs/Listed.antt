-- What is listed, and names in front of pieces.
use Rattle.std.proofs.Common.{◌≡◌, ℕ, zero, suc, ◌+◌, ◌<◌, ◌≤◌, Option, Some, None, slice_get, Bool, true, false, IsTrue, ◌↔◌, List, [], ◌∷◌, ◌++◌, map, length, take, get_or, refl, sym, subst, ◌∙◌, ap, arith}
use Rattle.std.specs.List.{Contains}
use Rattle.std.proofs.lemmas.List.{append_assoc, length-map, take_more}
use Rattle.std.proofs.lemmas.Option.{none-some, same_Some}

pub listed_head : {X : Type 0} (x : X) (xs : List X) → Contains (x ∷ xs) x
listed_head x xs = (zero, omega arith, refl)

pub listed_later : {X : Type 0} (x y : X) (xs : List X) → Contains xs y → Contains (x ∷ xs) y
listed_later x y xs (k, h, e) = (suc k, omega (arith, h), e)

pub listed_behind : {X : Type 0} (x y : X) (xs : List X) → (x ≡ y → ⊥) → Contains (x ∷ xs) y → Contains xs y
listed_behind x y xs f (zero, h, e) = absurd (f e)
listed_behind x y xs f (suc k, h, e) = (k, omega (arith, h), e)

pub none_listed : {X : Type 0} (x : X) → Contains [] x → ⊥
none_listed x (k, h, e) = absurd (omega (arith, h))

-- a list that begins with names has each in its place
pub name_there : {X : Type 0} (names : List X) (i : ℕ) (d f : X) (others rest : List X) → i < length names → take i names ++ f ∷ others ≡ names ++ rest → f ≡ get_or names i d
name_there [] i d f others rest h e = absurd (omega (arith, h))
name_there (n ∷ names) zero d f others rest h e = cc
name_there (n ∷ names) (suc i) d f others rest h e = let later : take i names ++ f ∷ others ≡ names ++ rest = cc in name_there names i d f others rest (omega (arith, h)) later

-- and isn't shorter than they
pub name_wanting : {X : Type 0} (names : List X) (i : ℕ) (rest : List X) → i < length names → take i names ++ [] ≡ names ++ rest → ⊥
name_wanting [] i rest h e = absurd (omega (arith, h))
name_wanting (n ∷ names) zero rest h e = cc
name_wanting (n ∷ names) (suc i) rest h e = let later : take i names ++ [] ≡ names ++ rest = cc in name_wanting names i rest (omega (arith, h)) later

pub name_passed : {X : Type 0} (names : List X) (i : ℕ) (d f : X) (others : List X) → i < length names → f ≡ get_or names i d → take i names ++ f ∷ others ≡ take (i + 1) names ++ others
name_passed names i d f others h e =
    ap (λ x. take i names ++ x ∷ others) e ∙ sym (append_assoc (take i names) (get_or names i d ∷ []) others) ∙ ap (λ xs. xs ++ others) (sym (take_more names i d h))

-- along a list, through a function
pub known_later : {X Y : Type 0} (f : X → Y) (y : Y) (x : X) (rest others : List X) → rest ≡ x ∷ others → Contains (map f others) y → Contains (map f rest) y
known_later f y x rest others e h = subst (λ r. Contains (map f r) y) (sym e) (listed_later (f x) y (map f others) h)

pub known_behind : {X Y : Type 0} (f : X → Y) (y : Y) (x : X) (rest others : List X) → rest ≡ x ∷ others → (f x ≡ y → ⊥) → Contains (map f rest) y → Contains (map f others) y
known_behind f y x rest others e d h = listed_behind (f x) y (map f others) d (subst (λ r. Contains (map f r) y) e h)

pub known_first : {X Y : Type 0} (f : X → Y) (x : X) (rest others : List X) → rest ≡ x ∷ others → Contains (map f rest) (f x)
known_first f x rest others e = subst (λ r. Contains (map f r) (f x)) (sym e) (listed_head (f x) (map f others))

pub nothing_known : {X Y : Type 0} (f : X → Y) (xs : List X) (y : Y) → length xs ≡ 0 → Contains (map f xs) y → ⊥
nothing_known f xs y e (k, h, g) = omega (arith, h, length-map xs f, e)

-- a test that says no
pub told_false : {P : Type 0} {r : Bool} → (IsTrue r ↔ P) → r ≡ false → P → ⊥
told_false {r = r} h e p = let k : r ≡ true = h.1 p in cc

pub told_true : {P : Type 0} {r : Bool} → (IsTrue r ↔ P) → r ≡ true → P
told_true h e = h.0 e

-- what is there is one thing
pub one_value : {X : Type 0} {o : Option X} {v w : X} → o ≡ Some v → o ≡ Some w → v ≡ w
one_value h k = same_Some _ _ (sym h ∙ k)

pub no_value : {X : Type 0} {o : Option X} {v : X} → o ≡ Some v → o ≡ None → ⊥
no_value {v = v} h k = none-some v (sym k ∙ h)

pub beyond : {X Y : Type 0} (f : X → Y) (xs : List X) (i : ℕ) → length xs ≤ i → slice_get (map f xs) i ≡ None
beyond f [] i h = refl
beyond f (x ∷ xs) zero h = absurd (omega (arith, h))
beyond f (x ∷ xs) (suc i) h = beyond f xs i (omega (arith, h))
