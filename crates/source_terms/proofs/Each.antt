-- Lists that differ in length are not alike.
use Rattle.std.proofs.Common.{◌≡◌, ◌≢◌, ℕ, suc, Bool, false, List, [], ◌∷◌, length, map, refl, ap, sym}
use Rattle.std.proofs.Common.{◌∙◌}
use Rattle.std.proofs.lemmas.Bool.{and_right as after_test}
use Rattle.source_terms.specs.Alike.{each}

pub lists_differ : {A B : Type 0} (p : A → B → Bool) (xs : List A) (ys : List B) → length xs ≢ length ys
    → each p xs ys ≡ false
lists_differ p [] [] d = absurd (d refl)
lists_differ p [] (y ∷ ys) d = refl
lists_differ p (x ∷ xs) [] d = refl
lists_differ p (x ∷ xs) (y ∷ ys) d = after_test (p x y) (each p xs ys) (lists_differ p xs ys (λ e. d (ap suc e)))

pub views_differ : {A B C D : Type 0} (p : C → D → Bool) (f : A → C) (g : B → D) (xs : List A) (ys : List B)
    → length xs ≢ length ys → each p (map f xs) (map g ys) ≡ false
views_differ p f g [] [] d = absurd (d refl)
views_differ p f g [] (y ∷ ys) d = refl
views_differ p f g (x ∷ xs) [] d = refl
views_differ p f g (x ∷ xs) (y ∷ ys) d = after_test (p (f x) (g y)) (each p (map f xs) (map g ys))
    (views_differ p f g xs ys (λ e. d (ap suc e)))
