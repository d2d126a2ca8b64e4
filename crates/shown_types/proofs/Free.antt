-- The first name that is free, number by number; and texts without a byte.
use Rattle.std.proofs.Common.{◌≡◌, ℕ, suc, ◌+◌, ◌<◌, Bool, true, false, not, ◌||◌, cond, List, [], ◌∷◌, length, drop, drop-cons, if◌then◌else◌, refl, ap, sym, ◌∙◌, arith}
use Rattle.std.specs.List.{list_any, position_or_len}
use Rattle.shown_types.specs.Names.{free_from, is_taken, numbered}

here : (b : Bool) (a c : List ℕ) → b ≡ false → (if b then a else c) ≡ c
here true a c h = absurd (cc)
here false a c h = refl

further : (b : Bool) (a c : List ℕ) → b ≡ true → (if b then a else c) ≡ a
further true a c h = refl
further false a c h = absurd (cc)

at_number : (called : List (List ℕ)) (letters : List ℕ) (n k : ℕ) → n < length called → k ≡ n + 1
    → free_from called (drop n called) letters n
    ≡ (if is_taken called (numbered letters n) then free_from called (drop k called) letters (n + 1) else numbered letters n)
at_number called letters n k h e =
    ap (λ xs. free_from called xs letters n) (drop-cons called n [] h)
    ∙ ap (λ i. if is_taken called (numbered letters n) then free_from called (drop i called) letters (n + 1) else numbered letters n)
    (let g : suc n ≡ k = omega (arith, e) in g)

pub free_here : (called : List (List ℕ)) (letters : List ℕ) (n : ℕ) (whole name : List ℕ) → n < length called
    → is_taken called name ≡ false → name ≡ numbered letters n → whole ≡ free_from called (drop n called) letters n → name ≡ whole
free_here called letters n whole name h t is e =
    is ∙ sym (e ∙ at_number called letters n (n + 1) h refl
    ∙ here (is_taken called (numbered letters n)) (free_from called (drop (n + 1) called) letters (n + 1)) (numbered letters n)
    (ap (is_taken called) (sym is) ∙ t))

pub free_next : (called : List (List ℕ)) (letters : List ℕ) (n : ℕ) (whole name : List ℕ) → n < length called
    → is_taken called name ≡ true → name ≡ numbered letters n → whole ≡ free_from called (drop n called) letters n
    → whole ≡ free_from called (drop (n + 1) called) letters (n + 1)
free_next called letters n whole name h t is e =
    e ∙ at_number called letters n (n + 1) h refl
    ∙ further (is_taken called (numbered letters n)) (free_from called (drop (n + 1) called) letters (n + 1)) (numbered letters n)
    (ap (is_taken called) (sym is) ∙ t)

none_more : (b : Bool) (m n : ℕ) (any : Bool) → (m ≡ n → any ≡ false) → cond (not b) (1 + m) 0 ≡ suc n → (b || any) ≡ false
none_more true m n any f e = absurd (omega (arith, e))
none_more false m n any f e = f (omega (arith, e))

-- what is found nowhere isn't there
pub found_nowhere : {X : Type 0} (p : X → Bool) (xs : List X) → position_or_len p xs ≡ length xs → list_any p xs ≡ false
found_nowhere p [] e = refl
found_nowhere p (x ∷ xs) e = none_more (p x) (position_or_len p xs) (length xs) (list_any p xs) (found_nowhere p xs) e
