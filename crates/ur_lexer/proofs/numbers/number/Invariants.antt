use Rattle.std.proofs.Common.{◌≡◌, ◌≤◌, drop}
use Rattle.ur_lexer.specs.Numbers.{value_from}
use Rattle.ur_lexer.proofs.numbers.number.Given as goal

abbrev pub invariant-digits : goal.invariant-digits
invariant-digits l = record { value : value_from l.total (drop l.digit-index l.digits) ≡ value_from 0 l.digits; low : l.total ≤ l.most }
