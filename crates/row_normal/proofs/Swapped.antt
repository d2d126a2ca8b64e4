-- The order in which pieces are written does not matter.
use Rattle.std.proofs.Common.{◌≡◌, ℕ, ◌<◌, true, false, List, [], ◌∷◌, ◌++◌, map-id, refl, sym, ap, ◌∙◌, subst, true≢false, Ordering, Less, Equal, Greater, is_lt, is_gt, nat_cmp}
use Rattle.std.specs.Cmp.{IsStrictWeakOrder}
use Rattle.std.specs.Cmp.Lexicographic.{slice_cmp}
use Rattle.std.specs.List.Sorted.{ties}
use Rattle.std.specs.Ordering.{MatchOrdering, ordering_then, ordering_reverse}
use Rattle.std.proofs.lemmas.Cmp.{nat_list_cmp_total, ranked}
use Rattle.std.proofs.lemmas.List.Sorted.{ranks_by}
use Rattle.con_terms.specs.Trees.{Cn, cat}
use Rattle.row_normal.specs.Ordered.{before, first_kind, glued, joined, ordered, ordered_pieces, piece_key, sorted}
use Rattle.row_normal.proofs.Arranged.{arranged, arranged_is, arranged_swaps, arranged_twice, tied}
use Rattle.row_normal.proofs.Codes.{key_told}

pub before_ranks : IsStrictWeakOrder before
before_ranks = ranks_by nat_list_cmp_total piece_key

then_less : Less ≡ Equal → ⊥
then_less h = true≢false (ap is_lt h)

then_greater : Greater ≡ Equal → ⊥
then_greater h = true≢false (ap is_gt h)

then_equal : (r s : Ordering) → ordering_then r s ≡ Equal → (r ≡ Equal) × (s ≡ Equal)
then_equal Less s h = absurd (then_less h)
then_equal Equal s h = (refl, h)
then_equal Greater s h = absurd (then_greater h)

number_told : (x y : ℕ) → nat_cmp x y ≡ Equal → x ≡ y
number_told x y h = subst (λ r. MatchOrdering r (x < y) (x ≡ y) (y < x)) h (ranked x y (nat_cmp x y) refl)

numbers_told : (xs ys : List ℕ) → slice_cmp nat_cmp xs ys ≡ Equal → xs ≡ ys
numbers_told [] [] h = refl
numbers_told [] (y ∷ ys) h = absurd (then_less h)
numbers_told (x ∷ xs) [] h = absurd (then_greater h)
numbers_told (x ∷ xs) (y ∷ ys) h =
    let (p, q) = then_equal (nat_cmp x y) (slice_cmp nat_cmp xs ys) h in
    ap (λ z. z ∷ xs) (number_told x y p) ∙ ap (λ zs. y ∷ zs) (numbers_told xs ys q)

neither : (r s : Ordering) → is_lt r ≡ false → is_lt s ≡ false → r ≡ ordering_reverse s → r ≡ Equal
neither Less s p q h = absurd (true≢false p)
neither Equal s p q h = refl
neither Greater Less p q h = absurd (true≢false q)
neither Greater Equal p q h = h
neither Greater Greater p q h = absurd (true≢false (ap is_gt h))

tied_keys : (j k : List ℕ) → is_lt (slice_cmp nat_cmp j k) ≡ false → is_lt (slice_cmp nat_cmp k j) ≡ false → j ≡ k
tied_keys j k p q = numbers_told j k (neither (slice_cmp nat_cmp j k) (slice_cmp nat_cmp k j) p q (nat_list_cmp_total.antisymm j k))

-- pieces of which neither comes before the other are one
pub tied_told : (p q : Cn) → ties before p q ≡ true → p ≡ q
tied_told p q h = let (l, m) = tied before before_ranks p q h in key_told p q (tied_keys (piece_key p) (piece_key q) l m)

-- the pieces in order, told in two ways
pub sorted_is : (ps : List Cn) → arranged before ps ≡ sorted ps
sorted_is ps = sym (map-id (arranged before ps)) ∙ arranged_is (λ p. p) ps ∙ ap sorted (map-id ps)

pub sorted_swaps : (ps qs : List Cn) → sorted (ps ++ qs) ≡ sorted (qs ++ ps)
sorted_swaps ps qs = sym (sorted_is (ps ++ qs)) ∙ arranged_swaps before before_ranks tied_told ps qs ∙ sorted_is (qs ++ ps)

pub sorted_twice : (ps : List Cn) → sorted (sorted ps) ≡ sorted ps
sorted_twice ps = sym (ap (arranged before) (sorted_is ps) ∙ sorted_is (sorted ps)) ∙ arranged_twice before before_ranks ps ∙ sorted_is ps

pub cat_swaps_ordered : (a b : Cn) → first_kind a ≡ first_kind b → ordered (cat a b) ≡ ordered (cat b a)
cat_swaps_ordered a b h =
    ap (λ k. joined k (glued (sorted (ordered_pieces a ++ ordered_pieces b)))) h
    ∙ ap (λ ps. joined (first_kind b) (glued ps)) (sorted_swaps (ordered_pieces a) (ordered_pieces b))
