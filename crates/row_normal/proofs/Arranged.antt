-- A stable sort is the insertion sort.
use Rattle.std.proofs.Common.{◌≡◌, ℕ, zero, suc, ◌+◌, ◌<◌, ◌≤◌, Bool, true, false, cond, not, ◌&&◌, if◌then◌else◌, List, [], ◌∷◌, ◌++◌, length, get_or, map, filter, refl, ap, sym, ◌∙◌, true≢false, arith}
use Rattle.std.proofs.lemmas.Bool.{and_parts, not-true}
use Rattle.std.specs.Cmp.{IsStrictWeakOrder}
use Rattle.std.specs.List.Sorted.{ties, IsSortedBy, IsStableBy}
use Rattle.std.proofs.lemmas.List.Sorted.{sorted_far}
use Rattle.con_terms.specs.Trees.{Cn}
use Rattle.row_normal.specs.Ordered.{before, insert, sorted}

not_true : (b : Bool) → (b ≡ true → b ≡ false) → b ≡ false
not_true true h = h refl
not_true false h = refl

not_both : (a b : Bool) → (a ≡ true → b ≡ true → ⊥) → (a && b) ≡ false
not_both true true h = absurd (h refl refl)
not_both true false h = refl
not_both false b h = refl

-- of two that do not both pass, the order does not matter
turn : {X : Type 0} (s t : Bool) (q p : X) (F : List X) → (s && t) ≡ false → cond s (q ∷ cond t (p ∷ F) F) (cond t (p ∷ F) F) ≡ cond t (p ∷ cond s (q ∷ F) F) (cond s (q ∷ F) F)
turn true true q p F h = absurd (true≢false h)
turn true false q p F h = refl
turn false true q p F h = refl
turn false false q p F h = refl

abbrev head_or : {X : Type 0} → X → List X → X
head_or d [] = d
head_or d (x ∷ xs) = x

abbrev tail_of : {X : Type 0} → List X → List X
tail_of [] = []
tail_of (x ∷ xs) = xs

abbrev has_one : {X : Type 0} → List X → Bool
has_one [] = false
has_one (x ∷ xs) = true

kept : {X : Type 0} (b : Bool) (x : X) (xs : List X) → b ≡ true → cond b (x ∷ xs) xs ≡ x ∷ xs
kept true x xs h = refl
kept false x xs h = absurd (true≢false (sym h))

left_out : {X : Type 0} (b : Bool) (x : X) (xs : List X) → b ≡ false → cond b (x ∷ xs) xs ≡ xs
left_out true x xs h = absurd (true≢false h)
left_out false x xs h = refl

-- what follows a shared first element
after_first : {X : Type 0} (b : Bool) (y : X) (A B : List X) → cond b (y ∷ A) A ≡ cond b (y ∷ B) B → A ≡ B
after_first true y A B h = ap tail_of h
after_first false y A B h = h

module _ {X : Type 0} (lt : X → X → Bool) where
  abbrev pub put_in : X → List X → List X
  put_in p [] = p ∷ []
  put_in p (q ∷ qs) = if lt q p then q ∷ put_in p qs else p ∷ q ∷ qs

  abbrev pub arranged : List X → List X
  arranged [] = []
  arranged (p ∷ ps) = put_in p (arranged ps)

  abbrev pub Above : X → List X → Type 0
  Above x [] = Unit {0}
  Above x (y ∷ ys) = (lt y x ≡ false) × Above x ys

  abbrev pub Up : List X → Type 0
  Up [] = Unit {0}
  Up (x ∷ xs) = Above x xs × Up xs

  above_all : (x : X) (ys : List X) → ((k : ℕ) (d : X) → k < length ys → lt (get_or ys k d) x ≡ false) → Above x ys
  above_all x [] h = tt
  above_all x (y ∷ ys) h = (h 0 y (omega arith), above_all x ys (λ k d l. h (suc k) d (omega (arith, l))))

  up_of : (xs : List X) → ((i j : ℕ) (d : X) → i ≤ j → j < length xs → lt (get_or xs j d) (get_or xs i d) ≡ false) → Up xs
  up_of [] h = tt
  up_of (x ∷ xs) h = (above_all x xs (λ k d l. h 0 (suc k) d (omega arith) (omega (arith, l))), up_of xs (λ i j d l m. h (suc i) (suc j) d (omega (arith, l)) (omega (arith, m))))

  put_above_cases : (x p q : X) (qs : List X) (b : Bool) → lt p x ≡ false → lt q x ≡ false → Above x qs → Above x (put_in p qs) → Above x (if b then q ∷ put_in p qs else p ∷ q ∷ qs)
  put_above_cases x p q qs true l a u h = (a, h)
  put_above_cases x p q qs false l a u h = (l, (a, u))

  put_above : (x p : X) (qs : List X) → lt p x ≡ false → Above x qs → Above x (put_in p qs)
  put_above x p [] l u = (l, tt)
  put_above x p (q ∷ qs) l (a, u) = put_above_cases x p q qs (lt q p) l a u (put_above x p qs l u)

  module _ (o : IsStrictWeakOrder lt) where
    own : (x : X) → lt x x ≡ false
    own x = not_true (lt x x) (o.one_way x x)

    ties_own : (x : X) → ties lt x x ≡ true
    ties_own x = ap (λ b. not b && not b) (own x)

    pub tied : (x y : X) → ties lt x y ≡ true → (lt x y ≡ false) × (lt y x ≡ false)
    tied x y h = let (p, q) = and_parts (not (lt x y)) (not (lt y x)) h in (not-true (lt x y) p, not-true (lt y x) q)

    tie : (x y : X) → lt x y ≡ false → lt y x ≡ false → ties lt x y ≡ true
    tie x y p q = ap (λ b. not b && not (lt y x)) p ∙ ap (λ b. not false && not b) q

    lower : (p q : X) (qs : List X) → lt q p ≡ false → Above q qs → Above p qs
    lower p q [] l u = tt
    lower p q (z ∷ zs) l (a, u) = (o.chain z q p a l, lower p q zs l u)

    put_up_cases : (p q : X) (qs : List X) (b : Bool) → lt q p ≡ b → Above q qs → Up qs → Up (put_in p qs) → Up (if b then q ∷ put_in p qs else p ∷ q ∷ qs)
    put_up_cases p q qs true e a u h = (put_above q p qs (o.one_way q p e) a, h)
    put_up_cases p q qs false e a u h = ((e, lower p q qs e a), (a, u))

    put_up : (p : X) (qs : List X) → Up qs → Up (put_in p qs)
    put_up p [] u = (tt, tt)
    put_up p (q ∷ qs) (a, u) = put_up_cases p q qs (lt q p) refl a u (put_up p qs u)

    pub arranged_up : (xs : List X) → Up (arranged xs)
    arranged_up [] = tt
    arranged_up (x ∷ xs) = put_up x (arranged xs) (arranged_up xs)

    -- what is below another ties with nothing that the other ties with
    apart : (x p q : X) → lt q p ≡ true → (ties lt x q && ties lt x p) ≡ false
    apart x p q e = not_both (ties lt x q) (ties lt x p) (λ s t. true≢false (sym e ∙ o.chain q x p (tied x q s).1 (tied x p t).0))

    put_stable_cases : (x p q : X) (qs : List X) (b : Bool) → lt q p ≡ b → filter (ties lt x) (put_in p qs) ≡ filter (ties lt x) (p ∷ qs) →
        filter (ties lt x) (if b then q ∷ put_in p qs else p ∷ q ∷ qs) ≡ filter (ties lt x) (p ∷ q ∷ qs)
    put_stable_cases x p q qs true e h = ap (λ F. cond (ties lt x q) (q ∷ F) F) h ∙ turn (ties lt x q) (ties lt x p) q p (filter (ties lt x) qs) (apart x p q e)
    put_stable_cases x p q qs false e h = refl

    put_stable : (x p : X) (qs : List X) → filter (ties lt x) (put_in p qs) ≡ filter (ties lt x) (p ∷ qs)
    put_stable x p [] = refl
    put_stable x p (q ∷ qs) = put_stable_cases x p q qs (lt q p) refl (put_stable x p qs)

    arranged_stable : (x : X) (xs : List X) → filter (ties lt x) (arranged xs) ≡ filter (ties lt x) xs
    arranged_stable x [] = refl
    arranged_stable x (p ∷ ps) = put_stable x p (arranged ps) ∙ ap (λ F. cond (ties lt x p) (p ∷ F) F) (arranged_stable x ps)

    -- what ties with an element that is no lower than z is no lower than z
    no_lower_cases : (y z v : X) (vs : List X) (b : Bool) → ties lt y v ≡ b → lt v z ≡ false → (has_one (filter (ties lt y) vs) ≡ true → lt y z ≡ false) →
        has_one (cond b (v ∷ filter (ties lt y) vs) (filter (ties lt y) vs)) ≡ true → lt y z ≡ false
    no_lower_cases y z v vs true e a k h = o.chain y v z (tied y v e).0 a
    no_lower_cases y z v vs false e a k h = k h

    no_lower : (y z : X) (vs : List X) → Above z vs → has_one (filter (ties lt y) vs) ≡ true → lt y z ≡ false
    no_lower y z [] u h = absurd (true≢false (sym h))
    no_lower y z (v ∷ vs) (a, u) h = no_lower_cases y z v vs (ties lt y v) refl a (no_lower y z vs u) h

    -- the first of one list is no lower than the first of another that ties alike
    first_no_lower : (y z : X) (ys zs : List X) → Above z zs → filter (ties lt y) (y ∷ ys) ≡ filter (ties lt y) (z ∷ zs) → lt y z ≡ false
    first_no_lower y z ys zs a h = no_lower y z (z ∷ zs) (own z, a) (ap has_one (sym h) ∙ ap has_one (kept (ties lt y y) y (filter (ties lt y) ys) (ties_own y)))

    same_first : (y z : X) (ys zs : List X) → ties lt y z ≡ true → filter (ties lt y) (y ∷ ys) ≡ filter (ties lt y) (z ∷ zs) → y ≡ z
    same_first y z ys zs t h =
        ap (head_or y) (sym (kept (ties lt y y) y (filter (ties lt y) ys) (ties_own y)) ∙ h ∙ kept (ties lt y z) z (filter (ties lt y) zs) t)

    same_up : (ys zs : List X) → Up ys → Up zs → ((x : X) → filter (ties lt x) ys ≡ filter (ties lt x) zs) → ys ≡ zs
    same_up [] [] u v h = refl
    same_up [] (z ∷ zs) u v h = absurd (true≢false (sym (ap has_one (h z ∙ kept (ties lt z z) z (filter (ties lt z) zs) (ties_own z)))))
    same_up (y ∷ ys) [] u v h = absurd (true≢false (sym (ap has_one (sym (h y) ∙ kept (ties lt y y) y (filter (ties lt y) ys) (ties_own y)))))
    same_up (y ∷ ys) (z ∷ zs) (a, u) (c, v) h =
        let l : lt y z ≡ false = first_no_lower y z ys zs c (h y) in
        let m : lt z y ≡ false = first_no_lower z y zs ys a (sym (h z)) in
        let e : y ≡ z = same_first y z ys zs (tie y z l m) (h y) in
        let tails : ys ≡ zs = same_up ys zs u v (λ x. after_first (ties lt x y) y (filter (ties lt x) ys) (filter (ties lt x) zs) (h x ∙ ap (λ w. filter (ties lt x) (w ∷ zs)) (sym e))) in
        ap (λ w. w ∷ ys) e ∙ ap (λ ws. z ∷ ws) tails

    pub stable_is : (xs ys : List X) → IsSortedBy lt ys → IsStableBy lt xs ys → ys ≡ arranged xs
    stable_is xs ys s k = same_up ys (arranged xs) (up_of ys (sorted_far lt o ys s)) (arranged_up xs) (λ x. k x ∙ sym (arranged_stable x xs))

    -- what is arranged stays
    pub arranged_twice : (xs : List X) → arranged (arranged xs) ≡ arranged xs
    arranged_twice xs = same_up (arranged (arranged xs)) (arranged xs) (arranged_up (arranged xs)) (arranged_up xs) (λ x. arranged_stable x (arranged xs))

-- pieces arranged by their trees are the trees in order
module _ {X : Type 0} (f : X → Cn) where
  abbrev pub by_tree : X → X → Bool
  by_tree x y = before (f x) (f y)

  insert_cases : (p q : X) (qs : List X) (b : Bool) → map f (put_in by_tree p qs) ≡ insert (f p) (map f qs) →
      map f (if b then q ∷ put_in by_tree p qs else p ∷ q ∷ qs) ≡ (if b then f q ∷ insert (f p) (map f qs) else f p ∷ f q ∷ map f qs)
  insert_cases p q qs true h = ap (λ l. f q ∷ l) h
  insert_cases p q qs false h = refl

  insert_is : (p : X) (qs : List X) → map f (put_in by_tree p qs) ≡ insert (f p) (map f qs)
  insert_is p [] = refl
  insert_is p (q ∷ qs) = insert_cases p q qs (by_tree q p) (insert_is p qs)

  pub arranged_is : (xs : List X) → map f (arranged by_tree xs) ≡ sorted (map f xs)
  arranged_is [] = refl
  arranged_is (x ∷ xs) = insert_is x (arranged by_tree xs) ∙ ap (insert (f x)) (arranged_is xs)

module _ {X : Type 0} (lt : X → X → Bool) (o : IsStrictWeakOrder lt) (one : (x y : X) → ties lt x y ≡ true → x ≡ y) where
  abbrev tally : X → List X → ℕ
  tally x [] = 0
  tally x (z ∷ zs) = cond (ties lt x z) (suc (tally x zs)) (tally x zs)

  abbrev copies : X → ℕ → List X
  copies x zero = []
  copies x (suc n) = x ∷ copies x n

  filtered_cases : (x z : X) (zs : List X) (n : ℕ) (b : Bool) → ties lt x z ≡ b → filter (ties lt x) zs ≡ copies x n →
      cond b (z ∷ filter (ties lt x) zs) (filter (ties lt x) zs) ≡ copies x (cond b (suc n) n)
  filtered_cases x z zs n true e h = ap (λ w. w ∷ filter (ties lt x) zs) (sym (one x z e)) ∙ ap (λ l. x ∷ l) h
  filtered_cases x z zs n false e h = h

  -- what ties with an element are its copies
  filtered : (x : X) (zs : List X) → filter (ties lt x) zs ≡ copies x (tally x zs)
  filtered x [] = refl
  filtered x (z ∷ zs) = filtered_cases x z zs (tally x zs) (ties lt x z) refl (filtered x zs)

  tally_cases : (b : Bool) (n m k : ℕ) → n ≡ m + k → cond b (suc n) n ≡ cond b (suc m) m + k
  tally_cases true n m k h = omega (arith, h)
  tally_cases false n m k h = h

  tally_append : (x : X) (xs ys : List X) → tally x (xs ++ ys) ≡ tally x xs + tally x ys
  tally_append x [] ys = let e : tally x ys ≡ 0 + tally x ys = omega arith in e
  tally_append x (z ∷ zs) ys = tally_cases (ties lt x z) _ _ _ (tally_append x zs ys)

  tally_swaps : (x : X) (xs ys : List X) → tally x (xs ++ ys) ≡ tally x (ys ++ xs)
  tally_swaps x xs ys = omega (arith, tally_append x xs ys, tally_append x ys xs)

  -- where what ties is one, the order in which two lists are written does not matter
  pub arranged_swaps : (xs ys : List X) → arranged lt (xs ++ ys) ≡ arranged lt (ys ++ xs)
  arranged_swaps xs ys = same_up lt o (arranged lt (xs ++ ys)) (arranged lt (ys ++ xs)) (arranged_up lt o (xs ++ ys)) (arranged_up lt o (ys ++ xs)) (λ x.
      arranged_stable lt o x (xs ++ ys) ∙ filtered x (xs ++ ys) ∙ ap (copies x) (tally_swaps x xs ys) ∙ sym (filtered x (ys ++ xs)) ∙ sym (arranged_stable lt o x (ys ++ xs)))
