-- Pieces sorted by their keys are their trees in order.
use Rattle.std.proofs.Common.{◌≡◌, List, map, ap, ◌∙◌, Ordering, is_lt, nat_cmp}
use Rattle.std.specs.Cmp.{IsStrictWeakOrder}
use Rattle.std.specs.Cmp.Lexicographic.{slice_cmp}
use Rattle.std.specs.List.Sorted.{IsSortedBy, IsStableBy}
use Rattle.std.proofs.lemmas.Cmp.{nat_list_cmp_total}
use Rattle.std.proofs.lemmas.List.Sorted.{ranks_by}
use Rattle.row_normal.specs.declared.piece.Piece.{Piece}
use Rattle.row_normal.specs.Glue.{piece_tree}
use Rattle.row_normal.specs.Ordered.{piece_key, sorted}
use Rattle.row_normal.proofs.Arranged.{arranged_is, by_tree, stable_is}

pub ranks : IsStrictWeakOrder (by_tree piece_tree)
ranks = ranks_by nat_list_cmp_total (λ p. piece_key (piece_tree p))

pub compares : (p q : Piece) (r : Ordering) → r ≡ slice_cmp nat_cmp p.key.items q.key.items → is_lt r ≡ by_tree piece_tree p q
compares p q r e =
    ap is_lt e ∙ ap (λ j. is_lt (slice_cmp nat_cmp j q.key.items)) p.placed ∙ ap (λ k. is_lt (slice_cmp nat_cmp (piece_key (piece_tree p)) k)) q.placed

pub placed : (xs ys : List Piece) → IsSortedBy (by_tree piece_tree) ys → IsStableBy (by_tree piece_tree) xs ys → map piece_tree ys ≡ sorted (map piece_tree xs)
placed xs ys s k = ap (map piece_tree) (stable_is (by_tree piece_tree) ranks xs ys s k) ∙ arranged_is piece_tree xs
