-- Where a byte of a text stands, as a person counts.
use Rattle.std.specs.Prelude.{ℕ, ◌+◌, ◌-◌, ◌==◌, Bool, not, List, length, take, drop, slice_range, count_by, chars}
use Rattle.std.specs.List.{prefix_len, suffix_len}

-- a line feed ends a line
abbrev pub is_feed : ℕ → Bool
is_feed b = b == 10

abbrev pub is_in_line : ℕ → Bool
is_in_line b = not (is_feed b)

-- the byte at which the line of this place begins: behind the last line feed before the place
abbrev pub line_start : List ℕ → ℕ → ℕ
line_start text at = at - suffix_len is_in_line (take at text)

-- the byte behind that line: the first line feed from the place on, or the text's end
abbrev pub line_end : List ℕ → ℕ → ℕ
line_end text at = at + prefix_len is_in_line (drop at text)

-- lines count from 1
abbrev pub line_number : List ℕ → ℕ → ℕ
line_number text at = count_by is_feed (take at text) + 1

-- columns count from 1, in characters
abbrev pub column_number : List ℕ → ℕ → ℕ
column_number text at = length (chars (slice_range text (line_start text at) at)) + 1
