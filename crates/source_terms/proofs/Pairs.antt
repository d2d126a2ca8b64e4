-- Two lists whose elements are compared one by one.
use Rattle.std.proofs.Common.{◌≡◌, ◌≢◌, ℕ, suc, ◌+◌, ◌<◌, ◌≤◌, Bool, true, false, ◌&&◌, List, [], ◌∷◌, length}
use Rattle.std.proofs.Common.{get_or, drop, drop-cons, add-one, refl, ap, sym, ◌∙◌, arith}
use Rattle.std.proofs.lemmas.List.{at_drop_more, drop_more, at_drop_all}
pub use Rattle.source_names.proofs.Walked.{and_false as no_and}

abbrev pub both : {A B : Type 0} → (A → B → Bool) → List A → List B → Bool
both r [] [] = true
both r (x ∷ xs) (y ∷ ys) = r x y && both r xs ys
both r _ _ = false

pub and_and : (a b c : Bool) → (a && (b && c)) ≡ ((a && b) && c)
and_and true b c = refl
and_and false b c = refl

-- lists of other lengths
pub both_differ : {A B : Type 0} (r : A → B → Bool) (xs : List A) (ys : List B) → length xs ≢ length ys
    → both r xs ys ≡ false
both_differ r [] [] h = absurd (h refl)
both_differ r [] (y ∷ ys) h = refl
both_differ r (x ∷ xs) [] h = refl
both_differ r (x ∷ xs) (y ∷ ys) h = ap (λ b. r x y && b) (both_differ r xs ys (λ e. h (ap suc e))) ∙ no_and (r x y)

-- the elements at a place, and what is behind them
pub both_one : {A B : Type 0} (r : A → B → Bool) (xs : List A) (ys : List B) (i : ℕ) (x : A) (y : B)
    → i < length xs → i < length ys
    → x ≡ get_or xs i x → y ≡ get_or ys i y
    → both r (drop i xs) (drop i ys) ≡ (r x y && both r (drop (i + 1) xs) (drop (i + 1) ys))
both_one r xs ys i x y h k e f =
    at_drop_more (λ zs. both r zs (drop i ys)) xs i x h
    ∙ at_drop_more (λ zs. both r (get_or xs i x ∷ drop (i + 1) xs) zs) ys i y k
    ∙ ap (λ z. r z (get_or ys i y) && both r (drop (i + 1) xs) (drop (i + 1) ys)) (sym e)
    ∙ ap (λ z. r x z && both r (drop (i + 1) xs) (drop (i + 1) ys)) (sym f)

-- they differ
pub both_fail : {A B : Type 0} (r : A → B → Bool) (xs : List A) (ys : List B) (i : ℕ) (x : A) (y : B)
    (whole : Bool) → i < length xs → i < length ys
    → x ≡ get_or xs i x → y ≡ get_or ys i y → whole ≡ both r (drop i xs) (drop i ys) → false ≡ r x y → false ≡ whole
both_fail r xs ys i x y whole h k e f so e' =
    sym (so ∙ both_one r xs ys i x y h k e f ∙ ap (λ b. b && both r (drop (i + 1) xs) (drop (i + 1) ys)) (sym e'))

-- they agree
pub both_more : {A B : Type 0} (r : A → B → Bool) (xs : List A) (ys : List B) (i : ℕ) (x : A) (y : B)
    (whole : Bool) → i < length xs → i < length ys
    → x ≡ get_or xs i x → y ≡ get_or ys i y → whole ≡ both r (drop i xs) (drop i ys) → true ≡ r x y
    → whole ≡ both r (drop (i + 1) xs) (drop (i + 1) ys)
both_more r xs ys i x y whole h k e f so e' =
    so ∙ both_one r xs ys i x y h k e f ∙ ap (λ b. b && both r (drop (i + 1) xs) (drop (i + 1) ys)) (sym e')

-- none is left
pub both_end : {A B : Type 0} (r : A → B → Bool) (xs : List A) (ys : List B) (i : ℕ) (whole : Bool) → length xs ≤ i
    → length ys ≤ i
    → whole ≡ both r (drop i xs) (drop i ys) → true ≡ whole
both_end r xs ys i whole h k so =
    sym (so ∙ at_drop_all (λ zs. both r zs (drop i ys)) xs i h ∙ at_drop_all (λ zs. both r [] zs) ys i k)

-- What is left to compare beside the lists: `before` and `after` a part of them.

pub fail_bool : (b r rest before after whole : Bool) → whole ≡ ((r && rest) && before) → b ≡ false → (b && after)
    ≡ (r && before) → false ≡ whole
fail_bool b false rest before after whole so n e = sym so
fail_bool b true false before after whole so n e = sym so
fail_bool b true true before after whole so n e = ap (λ z. z && after) (sym n) ∙ e ∙ sym so

pub turn : (r rest before : Bool) → ((r && rest) && before) ≡ (rest && (r && before))
turn true rest before = refl
turn false true before = refl
turn false false before = refl

pub more_bool : (b r rest before after whole : Bool) → whole ≡ ((r && rest) && before) → b ≡ true → (b && after)
    ≡ (r && before) → whole ≡ (rest && after)
more_bool b r rest before after whole so y e =
    so ∙ turn r rest before ∙ ap (λ z. rest && z) (sym e ∙ ap (λ z. z && after) y)

pub whole_begins : (whole all tasks : Bool) → whole ≡ all → (whole && tasks) ≡ (all && tasks)
whole_begins whole all tasks h = ap (λ b. b && tasks) h

pub whole_differs : {A B : Type 0} (r : A → B → Bool) (xs : List A) (ys : List B) (whole tasks : Bool)
    → length xs ≢ length ys
    → whole ≡ both r xs ys → false ≡ (whole && tasks)
whole_differs r xs ys whole tasks h so = ap (λ b. b && tasks) (sym (so ∙ both_differ r xs ys h))

pub whole_fails : {A B : Type 0} (r : A → B → Bool) (xs : List A) (ys : List B) (i : ℕ) (x : A) (y : B)
    (whole before after b : Bool)
    → i < length xs → i < length ys → x ≡ get_or xs i x → y ≡ get_or ys i y
    → whole ≡ (both r (drop i xs) (drop i ys) && before) → b ≡ false → (b && after) ≡ (r x y && before) → false
    ≡ whole
whole_fails r xs ys i x y whole before after b h k e f so n p =
    fail_bool b (r x y) (both r (drop (i + 1) xs) (drop (i + 1) ys)) before after whole (so
    ∙ ap (λ z. z && before) (both_one r xs ys i x y h k e f)) n p

pub whole_goes_on : {A B : Type 0} (r : A → B → Bool) (xs : List A) (ys : List B) (i : ℕ) (x : A) (y : B)
    (whole before after b : Bool)
    → i < length xs → i < length ys → x ≡ get_or xs i x → y ≡ get_or ys i y
    → whole ≡ (both r (drop i xs) (drop i ys) && before) → b ≡ true → (b && after) ≡ (r x y && before)
    → whole ≡ (both r (drop (i + 1) xs) (drop (i + 1) ys) && after)
whole_goes_on r xs ys i x y whole before after b h k e f so n p =
    more_bool b (r x y) (both r (drop (i + 1) xs) (drop (i + 1) ys)) before after whole (so
    ∙ ap (λ z. z && before) (both_one r xs ys i x y h k e f)) n p

pub whole_ends : {A B : Type 0} (r : A → B → Bool) (xs : List A) (ys : List B) (i : ℕ) (whole before : Bool)
    → length xs ≤ i → length ys ≤ i
    → whole ≡ (both r (drop i xs) (drop i ys) && before) → before ≡ whole
whole_ends r xs ys i whole before h k so =
    sym (so ∙ ap (λ z. z && before) (at_drop_all (λ zs. both r zs (drop i ys)) xs i h
    ∙ at_drop_all (λ zs. both r [] zs) ys i k))
