-- A list of one word.
use Rattle.std.proofs.Common.{◌≡◌, ℕ, ◌≤◌, ◌<◌, List, [], ◌∷◌, length, sym, ap, ◌∙◌, arith, Bool, true, map, get_or}
use Rattle.std.specs.Prelude.{nat_eq}
use Rattle.std.specs.Cmp.Lexicographic.{pointwise}
use Rattle.std.proofs.lemmas.Slice.Eq.{bytes_eq-Decides}

-- the one word of a list of words
pub one_word : {X : Type 0} (f : X → List ℕ) (l : List X) (x : X) (w : List ℕ) (r : Bool) → 1 ≤ length l → length l < 2 → x ≡ get_or l 0 x → r ≡ pointwise nat_eq (f x) w
    → (r ≡ true → map f l ≡ w ∷ []) × (map f l ≡ w ∷ [] → r ≡ true)
one_word f [] x w r some few first is = absurd (omega arith)
one_word {X} f (y ∷ z ∷ zs) x w r some few first is = absurd (omega arith)
one_word {X} f (y ∷ []) x w r some few first is =
    let d = bytes_eq-Decides (f x) w in
    let there : r ≡ true → map f (y ∷ []) ≡ w ∷ [] = λ h. ap (λ (a : X). f a ∷ []) (sym first) ∙ ap (λ (a : List ℕ). a ∷ []) (d.0 (sym is ∙ h)) in
    let back : map f (y ∷ []) ≡ w ∷ [] → r ≡ true = λ h. let same : f y ≡ w = cc h in is ∙ d.1 (ap f first ∙ same) in
    (there, back)
