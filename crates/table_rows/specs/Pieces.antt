-- The pieces of a link or a cookie that a value is written as.
use Rattle.std.specs.Prelude.{ℕ, ◌/◌, ◌%◌, Bool, true, ◌||◌, ◌==◌, List, [], ◌∷◌, ◌++◌, nat_lt, not, if◌then◌else◌, ◌&&◌}
use Rattle.std.specs.Fmt.{signed_decimal, digit_glyph}
use Rattle.table_rows.specs.Wires.{Wr, int, words, unit, rec_of, bare, tagged, Wrs, no_wires, wire}

-- the byte lies from the one to the other
abbrev pub is_from_to : ℕ → ℕ → ℕ → Bool
is_from_to low high b = not (nat_lt b low) && not (nat_lt high b)

-- letters, digits and - . _ ~, which are written as they are. RFC 3986, section 2.3
abbrev pub is_unreserved : ℕ → Bool
is_unreserved b =
    is_from_to 65 90 b || is_from_to 97 122 b || is_from_to 48 57 b || b == 45 || b == 46 || b == 95 || b == 126

-- a byte as it is, or as % and two upper-case hexadecimal digits
abbrev pub escaped_byte : ℕ → List ℕ
escaped_byte b = if is_unreserved b then b ∷ [] else 37 ∷ digit_glyph true (b / 16 % 16) ∷ digit_glyph true
    (b % 16) ∷ []

-- each byte so written
abbrev pub escaped : List ℕ → List ℕ
escaped [] = []
escaped (b ∷ bs) = escaped_byte b ++ escaped bs

-- A number is decimal. A text is _ and its bytes, escaped. The record without fields has no piece. A record writes
-- its fields in order. A value of a datatype writes its constructor's name and then what it holds.
abbrev mutual
  pub pieces : Wr → List (List ℕ)
  pieces (int z) = signed_decimal z ∷ []
  pieces (words t) = (95 ∷ escaped t) ∷ []
  pieces unit = []
  pieces (rec_of ws) = all_pieces ws
  pieces (bare n) = n ∷ []
  pieces (tagged n w) = n ∷ pieces w

  pub all_pieces : Wrs → List (List ℕ)
  all_pieces no_wires = []
  all_pieces (wire w ws) = pieces w ++ all_pieces ws
