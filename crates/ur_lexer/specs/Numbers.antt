-- Numbers from their digits.
use Rattle.std.specs.Prelude.{ℕ, ◌+◌, ◌-◌, ◌*◌, [], ◌∷◌, Option, Some, None, if◌then◌else◌, nat_le}
use Rattle.ur_lexer.specs.Bytes.{Bytes}

-- the number that decimal digits write behind a number
abbrev pub value_from : ℕ → Bytes → ℕ
value_from n [] = n
value_from n (b ∷ bs) = value_from (n * 10 + (b - 48)) bs

-- the number that decimal digits write
abbrev pub value_of : Bytes → ℕ
value_of digits = value_from 0 digits

-- that number, where it is at most the bound
unfoldable pub number_of : Bytes → ℕ → Option ℕ
number_of digits most = if nat_le (value_of digits) most then Some (value_of digits) else None
