-- Lists whose parts are looked through one after another.
use Rattle.std.proofs.Common.{◌≡◌, ℕ, ◌+◌, ◌<◌, ◌≤◌, Bool, true, false, ◌||◌, List, [], ◌∷◌, length, drop, get_or, ap, sym, ◌∙◌}
use Rattle.std.proofs.lemmas.List.{at_drop_more, at_drop_all}

-- the one that is next is the one looked for, or isn't; and none is left
pub found : {A : Type 0} (F : List A → Bool) (xs : List A) (i : ℕ) (x : A) (whole b rest : Bool) → i < length xs →
    x ≡ get_or xs i x → whole ≡ F (drop i xs) → F (x ∷ drop (i + 1) xs) ≡ (b || rest) → b ≡ true → true ≡ whole
found F xs i x whole b rest h e so step is = sym
    (so ∙ at_drop_more F xs i x h ∙ ap (λ y. F (y ∷ drop (i + 1) xs)) (sym e) ∙ step ∙ ap (λ z. z || rest) is)

pub passed : {A : Type 0} (F : List A → Bool) (xs : List A) (i : ℕ) (x : A) (whole b rest : Bool) → i < length xs →
    x ≡ get_or xs i x → whole ≡ F (drop i xs) → F (x ∷ drop (i + 1) xs) ≡ (b || rest) → b ≡ false → whole ≡ rest
passed F xs i x whole b rest h e so step is =
    so ∙ at_drop_more F xs i x h ∙ ap (λ y. F (y ∷ drop (i + 1) xs)) (sym e) ∙ step ∙ ap (λ z. z || rest) is

pub ended : {A : Type 0} (F : List A → Bool) (xs : List A) (i : ℕ) (whole : Bool) → length xs ≤ i →
    whole ≡ F (drop i xs) → F [] ≡ false → false ≡ whole
ended F xs i whole h so none = sym (so ∙ at_drop_all F xs i h ∙ none)
