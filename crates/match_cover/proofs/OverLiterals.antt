-- Literals that are tried one after another.
use Rattle.std.proofs.Common.{◌≡◌, ℕ, suc, ◌+◌, ◌-◌, ◌<◌, Bool, List, refl, ap, ◌∙◌, arith}
use Rattle.match_cover.specs.Rows.{Row}
use Rattle.match_cover.specs.Misses.{Out, tried, nth_literal, literals, literal_count}

pub count_is : literal_count ≡ 16384
unfolding literal_count
count_is = refl

pub literals_on : (k : List Row → Out) (words : Bool) (rows : List Row) (z : ℕ) → z < 16384
    → literals k words rows (literal_count - z) z ≡ tried k (nth_literal words z) rows (literals k words rows (literal_count - (z + 1)) (z + 1))
literals_on k words rows z h =
    let e : literal_count - z ≡ suc (literal_count - (z + 1)) = omega (arith, count_is) in
    let f : suc z ≡ z + 1 = omega arith in
    ap (λ n. literals k words rows n z) e ∙ ap (λ y. tried k (nth_literal words z) rows (literals k words rows (literal_count - (z + 1)) y)) f
