-- The lines that tell a place.
use Rattle.std.specs.Prelude.{◌≡◌, ℕ, ◌==◌, Bool, if◌then◌else◌, nat_lt, List, [], ◌++◌, length, map, slice_range, chars, codes, decimal, encode_utf8_all}
use Rattle.std.specs.Char.{is_control}
use Rattle.std.specs.List.{repeat}
use Rattle.told_places.specs.Places.{line_start, line_end, line_number, column_number}
use Rattle.told_places.specs.Pieces.{IsPiece}

-- a control character, as a tab, is shown as one space
abbrev pub shown_character : ℕ → ℕ
shown_character c = if is_control c then 32 else c

abbrev pub shown : List ℕ → List ℕ
shown piece = encode_utf8_all (map shown_character (chars piece))

-- stands for what is left out of a line
abbrev pub dots_if : Bool → List ℕ
dots_if cut = if cut then codes "..." else []

-- as wide as these
abbrev pub blank_if : Bool → List ℕ
blank_if cut = if cut then codes "   " else []

-- the first line: the file, the line, the column and the sentence
abbrev pub head_line : List ℕ → ℕ → ℕ → List ℕ → List ℕ
head_line file line column sentence =
    file ++ codes ":" ++ decimal line ++ codes ":" ++ decimal column ++ codes ": " ++ sentence ++ codes "\n"

-- the second: a piece of the text, and whether more of its line stands before and behind it
abbrev pub source_line : List ℕ → Bool → Bool → List ℕ
source_line piece before behind = codes "  " ++ dots_if before ++ shown piece ++ dots_if behind ++ codes "\n"

-- the third: a mark behind so many characters of the piece
abbrev pub mark_line : ℕ → Bool → List ℕ
mark_line width before = codes "  " ++ blank_if before ++ repeat width (codes " ") ++ codes "^\n"

-- what is told of a byte of a text, where this piece of its line is shown
abbrev pub told_at : List ℕ → List ℕ → ℕ → List ℕ → ℕ → ℕ → List ℕ
told_at file text at sentence from to =
    head_line file (line_number text at) (column_number text at) sentence
    ++ source_line (slice_range text from to) (nat_lt (line_start text at) from) (nat_lt to (line_end text at))
    ++ mark_line (length (chars (slice_range text from at))) (nat_lt (line_start text at) from)

abbrev pub IsToldAt : List ℕ → List ℕ → ℕ → List ℕ → List ℕ → Type 0
IsToldAt file text at sentence told =
    (from to : ℕ) × IsPiece text at from to × (told ≡ told_at file text at sentence from to)

-- what has no place
abbrev pub told_whole : List ℕ → List ℕ → List ℕ
told_whole file sentence = file ++ codes ": " ++ sentence ++ codes "\n"
