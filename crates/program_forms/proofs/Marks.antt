-- Numbers that find no mark at their places differ.
use Rattle.std.proofs.Common.{◌≡◌, ◌≢◌, ℕ, zero, suc, Bool, true, false, not, ◌&&◌, IsTrue, List, [], ◌∷◌, get_or, set, refl, arith}
use Rattle.std.specs.List.{AllByRecursion}
use Rattle.program_forms.specs.Symbols.{SymbolsDiffer, unmarked}
use Rattle.program_forms.proofs.Lists.{all_weaker}

-- what is marked was so before, or is the number that was marked
unlike : (marks : List Bool) (x y : ℕ) → get_or marks x true ≡ false → get_or (set marks x true) y true ≡ false → x ≢ y
unlike [] x y a b = absurd cc
unlike (m ∷ ms) zero zero a b = absurd cc
unlike (m ∷ ms) zero (suc y) a b = λ e. omega (arith, e)
unlike (m ∷ ms) (suc x) zero a b = λ e. omega (arith, e)
unlike (m ∷ ms) (suc x) (suc y) a b = λ e. unlike ms x y a b (omega (arith, e))

before : (marks : List Bool) (x y : ℕ) → get_or (set marks x true) y true ≡ false → get_or marks y true ≡ false
before [] x y b = b
before (m ∷ ms) zero zero b = absurd cc
before (m ∷ ms) zero (suc y) b = b
before (m ∷ ms) (suc x) zero b = b
before (m ∷ ms) (suc x) (suc y) b = before ms x y b

both : (a b : Bool) → IsTrue (not a && b) → (a ≡ false) × IsTrue b
both true b h = absurd cc
both false b h = (refl, h)

pub apart : (marks : List Bool) (xs : List ℕ) → IsTrue (unmarked marks xs)
    → AllByRecursion (λ y. get_or marks y true ≡ false) xs × SymbolsDiffer xs
apart marks [] h = (tt, tt)
apart marks (x ∷ xs) h =
    let parts = both (get_or marks x true) (unmarked (set marks x true) xs) h in
    let later = apart (set marks x true) xs parts.1 in (
      (parts.0, all_weaker (λ y. get_or (set marks x true) y true ≡ false) (λ y. get_or marks y true ≡ false) xs (before marks x) later.0),
      (all_weaker (λ y. get_or (set marks x true) y true ≡ false) (λ y. x ≢ y) xs (λ y. unlike marks x y parts.0) later.0, later.1),
    )

pub differing : (marks : List Bool) (xs : List ℕ) → IsTrue (unmarked marks xs) → SymbolsDiffer xs
differing marks xs h = (apart marks xs h).1
