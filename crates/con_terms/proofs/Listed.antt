-- A vector that is seen as the list of its elements' trees.
use Rattle.std.proofs.Common.{◌≡◌, ℕ, ◌<◌, List, [], ◌∷◌, ◌++◌, length, map, get_or, vec_len, Vec, Global, Some, slice_get, option_map, Result, Ok, Err, OnErr, ap, arith, ◌∙◌, sym}
use Rattle.std.proofs.lemmas.List.{map-append, length-map}
use Rattle.std.proofs.lemmas.Option.{slice_get-map, slice_get-get_or}

-- the tree of each element, in order
pub len_listed : {X Y : Type 0} (f : X → Y) (v : Vec X Global) (l : List Y) → l ≡ map f v.items → vec_len v ≡ length l
len_listed f v l e = omega (arith, ap length e, length-map v.items f, v.ok.0)

pub index_listed : {X Y : Type 0} (f : X → Y) (v : Vec X Global) (l : List Y) (i : ℕ) → l ≡ map f v.items → i < length l → i < vec_len v
index_listed f v l i e h = omega (arith, len_listed f v l e)

pub at_listed : {X Y : Type 0} (f : X → Y) (v : Vec X Global) (l : List Y) (i : ℕ) (x : X) → l ≡ map f v.items → i < length l → x ≡ get_or v.items i x → slice_get l i ≡ Some (f x)
at_listed f v l i x e h is =
    ap (λ m. slice_get m i) e ∙ slice_get-map f v.items i ∙ ap (option_map f) (slice_get-get_or v.items i x (let at : i < length v.items = omega (arith, index_listed f v l i e h, v.ok.0) in at)) ∙ ap (λ y. Some (f y)) (sym is)

pub pushed_listed : {X Y : Type 0} (f : X → Y) (xs ys : List X) (l m : List Y) (x : X) → l ≡ map f xs → m ≡ map f ys → ys ≡ xs ++ x ∷ [] → m ≡ l ++ f x ∷ []
pushed_listed f xs ys l m x e d is = d ∙ ap (map f) is ∙ map-append f xs (x ∷ []) ∙ ap (λ z. z ++ f x ∷ []) (sym e)

-- what holds anyway holds on an error
pub on_err : {X E : Type 0} (r : Result X E) (P : Type 0) → P → OnErr r P
on_err (Ok x) P p = tt
on_err (Err e) P p = p

pub same_listed : {X Y : Type 0} (f : X → Y) (xs ys : List X) (l m : List Y) → l ≡ map f xs → m ≡ map f ys → ys ≡ xs → m ≡ l
same_listed f xs ys l m e d is = d ∙ ap (map f) is ∙ sym e
