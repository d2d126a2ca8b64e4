-- Stacks as lists whose first element is the last that was put.
use Rattle.std.proofs.Common.{◌≡◌, List, [], ◌∷◌, ◌++◌, map, reverse, refl, ap, ◌∙◌}
use Rattle.std.proofs.lemmas.List.{map-append, reverse-append}

pub put_first : {X Y : Type 0} (f : X → Y) (xs ys : List X) (x : X) → xs ≡ ys ++ x ∷ [] → reverse (map f xs) ≡ f x ∷ reverse (map f ys)
put_first f xs ys x e = ap (λ zs. reverse (map f zs)) e ∙ ap reverse (map-append f ys (x ∷ [])) ∙ reverse-append (map f ys) (f x ∷ [])

pub none_put : {X Y : Type 0} (f : X → Y) (xs : List X) → xs ≡ [] → reverse (map f xs) ≡ []
none_put f xs e = ap (λ zs. reverse (map f zs)) e
