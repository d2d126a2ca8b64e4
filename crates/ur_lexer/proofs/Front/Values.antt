-- Numbers from their digits.
use Rattle.std.proofs.Common.{◌≡◌, ◌<◌, ◌≤◌, ℕ, zero, suc, ◌+◌, ◌-◌, ◌*◌, [], ◌∷◌, length, drop, get_or, refl, ap, Some, None, arith}
use Rattle.std.proofs.Math.Seq.{drop-cons}
use Rattle.ur_lexer.specs.Bytes.{Bytes}
use Rattle.ur_lexer.specs.Numbers.{value_from, number_of}

pub value_grows : (n : ℕ) (bs : Bytes) → n ≤ value_from n bs
value_grows n [] = omega arith
value_grows n (b ∷ bs) = omega (arith, value_grows (n * 10 + (b - 48)) bs)

pub value_step : (n i : ℕ) (bs : Bytes) → i < length bs → value_from n (drop i bs) ≡ value_from (n * 10 + (get_or bs i 0 - 48)) (drop (suc i) bs)
value_step n i bs lt = ap (value_from n) (drop-cons bs i 0 lt)

pub number_small : (bs : Bytes) (most : ℕ) → value_from 0 bs ≤ most → number_of bs most ≡ Some (value_from 0 bs)
unfolding number_of
number_small bs most h = search (arith, h)

pub number_large : (bs : Bytes) (most : ℕ) → most < value_from 0 bs → number_of bs most ≡ None
unfolding number_of
number_large bs most h = search (arith, h)

pub value_end : (n i : ℕ) (bs : Bytes) → length bs ≤ i → value_from n (drop i bs) ≡ n
value_end n zero [] h = refl
value_end n zero (b ∷ bs) h = absurd (omega arith)
value_end n (suc i) [] h = refl
value_end n (suc i) (b ∷ bs) h = value_end n i bs (omega arith)
