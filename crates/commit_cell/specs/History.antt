-- Histories: lists of entries, each with the number of the pass that made it and with a serial.
use Rattle.std.specs.Prelude.{◌≡◌, ℕ, ◌+◌, ◌==◌, List, [], ◌∷◌, ◌++◌, length, filter, count_by, cond, nat_lt}

module _ {E : Type 0} where
  -- the history begins with what was seen
  abbrev pub StartsWith : List E → List E → Type 0
  StartsWith log seen = (more : List E) × (log ≡ seen ++ more)

  -- the entries of one pass, in order
  abbrev pub of_number : (E → ℕ) → ℕ → List E → List E
  of_number number n log = filter (λ e. number e == n) log

  -- the serials are n, n + 1, and so on
  abbrev pub CountsFrom : (E → ℕ) → ℕ → List E → Type 0
  CountsFrom serial n [] = Unit {0}
  CountsFrom serial n (e ∷ es) = (serial e ≡ n) × CountsFrom serial (n + 1) es

  -- the longer of two beginnings of one history
  abbrev pub longer : List E → List E → List E
  longer xs ys = cond (nat_lt (length xs) (length ys)) ys xs

-- how often the number stands in the list
abbrev pub times : ℕ → List ℕ → ℕ
times n ns = count_by (λ m. m == n) ns
