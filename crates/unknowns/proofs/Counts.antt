-- Keeping an answer leaves the number of unknowns.
use Rattle.std.proofs.Common.{◌≡◌, ◌==◌, ◌-◌, ◌+◌, ℕ, Bool, true, false, if◌then◌else◌, Some, refl, ap}
use Rattle.con_terms.specs.Trees.{Cn}
use Rattle.unknowns.specs.Unknowns.{Fd, nothing, slot, put, count_of}

pub count_stays : (f : Fd) (i : ℕ) (a : Cn) → count_of (put f i a) ≡ count_of f
count_stays nothing i a = refl
count_stays (slot k o f) i a = by_test (i == 0) (count_stays f (i - 1) a)
  where
    by_test : (b : Bool) → count_of (put f (i - 1) a) ≡ count_of f
        → count_of (if b then slot k (Some a) f else slot k o (put f (i - 1) a)) ≡ count_of f + 1
    by_test true e = refl
    by_test false e = ap (λ n. n + 1) e
