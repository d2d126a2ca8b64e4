-- Numbers by which most texts differ, so that few are compared byte by byte.
use Rattle.std.specs.Prelude.{ℕ, ◌+◌, ◌*◌, ◌%◌, ◌^◌, [], ◌∷◌}
use Rattle.source_names.specs.Scopes.{Words}

-- the mark of a text, a number of 32 bits: the polynomial of its bytes at 31
abbrev pub mark_of : Words → ℕ
mark_of [] = 0
mark_of (b ∷ bs) = (b + 31 * mark_of bs) % 2 ^ 32
