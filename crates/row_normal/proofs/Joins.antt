-- Pieces joined from the last on.
use Rattle.std.proofs.Common.{◌≡◌, List, [], ◌∷◌, ◌++◌, map, refl, ap, ◌∙◌}
use Rattle.std.proofs.lemmas.List.{map-append}
use Rattle.con_terms.specs.Trees.{Kd, Cn, cat}
use Rattle.row_normal.specs.Glue.{cats_before}
use Rattle.row_normal.specs.Ordered.{joined}

-- a last piece
joined_last : (k : Kd) (ps : List Cn) (c : Cn) → joined k (ps ++ c ∷ []) ≡ cats_before ps c
joined_last k [] c = refl
joined_last k (p ∷ []) c = refl
joined_last k (p ∷ q ∷ ps) c = ap (cat p) (joined_last k (q ∷ ps) c)

cats_before_last : (ps : List Cn) (p c : Cn) → cats_before (ps ++ p ∷ []) c ≡ cats_before ps (cat p c)
cats_before_last [] p c = refl
cats_before_last (q ∷ ps) p c = ap (cat q) (cats_before_last ps p c)

-- the last piece taken off
pub taken_first : {X : Type 0} (f : X → Cn) (k : Kd) (xs ys : List X) (x : X) → xs ≡ ys ++ x ∷ [] → joined k (map f xs) ≡ cats_before (map f ys) (f x)
taken_first f k xs ys x e = ap (λ l. joined k (map f l)) e ∙ ap (joined k) (map-append f ys (x ∷ [])) ∙ joined_last k (map f ys) (f x)

-- one more taken off
pub taken_more : {X : Type 0} (f : X → Cn) (xs ys : List X) (x : X) (c : Cn) → xs ≡ ys ++ x ∷ [] → cats_before (map f xs) c ≡ cats_before (map f ys) (cat (f x) c)
taken_more f xs ys x c e = ap (λ l. cats_before (map f l) c) e ∙ ap (λ l. cats_before l c) (map-append f ys (x ∷ [])) ∙ cats_before_last (map f ys) (f x) c
