-- Lengths of up to 16 MiB.
use Rattle.std.specs.Prelude.{ℕ, List, length, min}

-- the length, or 16,777,217 where it is longer than 16 MiB
abbrev pub length_told : List ℕ → ℕ
length_told bytes = min (length bytes) 16777217
