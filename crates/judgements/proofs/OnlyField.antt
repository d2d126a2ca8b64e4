-- The only field of a literal.
use Rattle.std.proofs.Common.{◌≡◌, ℕ, List, [], ◌∷◌, length, map, get_or, Option, None, refl, ap, arith}
use Rattle.con_terms.specs.Trees.{Kd, Cn, row}
use Rattle.con_terms.specs.View.{pair_tree, pairs_from}
use Rattle.con_terms.specs.declared.con.Pair.{Pair}
use Rattle.core_typing.specs.Compared.{value_of}
use Rattle.judgements.specs.Pieces.{value_where}

pub none_unless_one : (n : Cn) (k : Kd) (xs : List Pair) → (length xs ≡ 1 → ⊥) → None ≡ value_of n (row k (pairs_from (map pair_tree xs)))
none_unless_one n k [] h = refl
none_unless_one n k (x ∷ []) h = absurd (h refl)
none_unless_one n k (x ∷ y ∷ xs) h = refl

pub of_the_only : (n : Cn) (k : Kd) (xs : List Pair) (x : Pair) → length xs ≡ 1 → x ≡ get_or xs 0 x → value_where n k (pair_tree x) ≡ value_of n (row k (pairs_from (map pair_tree xs)))
of_the_only n k [] x h e = absurd (omega (arith, h))
of_the_only n k (y ∷ []) x h e = ap (λ z. value_where n k (pair_tree z)) e
of_the_only n k (y ∷ z ∷ xs) x h e = absurd (omega (arith, h))
