-- Entities.
use Rattle.std.specs.Prelude.{ℕ, ◌+◌, Bool, List, [], ◌∷◌, length, take, Option, Some, None, ◌==◌, ◌&&◌, ◌||◌, not, if◌then◌else◌, nat_eq, nat_lt, nat_le, slice_index, option_and_then, option_map, codes}
use Rattle.std.specs.List.{starts_with, prefix_len}
use Rattle.std.specs.Char.{is_ascii_digit}
use Rattle.ur_lexer.specs.Bytes.{Bytes}
use Rattle.ur_lexer.specs.Numbers.{number_of}

-- the named entities, each with the character that it stands for
abbrev pub entities : List (Bytes × ℕ)
entities =
    (codes "&lt;", 60) ∷ (codes "&gt;", 62) ∷ (codes "&amp;", 38) ∷ (codes "&quot;", 34) ∷ (codes "&nbsp;", 160) ∷ []

-- the character of a named entity at the front, and its length
abbrev pub named : List (Bytes × ℕ) → Bytes → Option (ℕ × ℕ)
named [] bytes = None
named (entry ∷ table) bytes =
    if starts_with nat_eq bytes entry.0 then Some (entry.1, length entry.0) else named table bytes

-- a number that is a character's: below 0x110000 and no surrogate
abbrev pub is_character : ℕ → Bool
is_character n = nat_lt n 0xD800 || (nat_le 0xE000 n && nat_lt n 0x110000)

abbrev pub numbered : Bytes → Option ℕ
numbered digits = option_and_then (λ n. if is_character n then Some n else None) (number_of digits 0x10_ffff)

-- the character of a numeric entity behind its `&#`, and how many bytes it takes there: digits and `;`
abbrev pub numeric : Bytes → Option (ℕ × ℕ)
numeric bytes =
    let len = prefix_len is_ascii_digit bytes in
    if (len == 0) || (len == length bytes) || not (slice_index bytes len == 59) then None
    else option_map (λ c. (c, len + 1)) (numbered (take len bytes))

-- the character of the entity at the front, and its length
abbrev pub entity : Bytes → Option (ℕ × ℕ)
entity [] = named entities []
entity (a ∷ []) = named entities (a ∷ [])
entity (a ∷ b ∷ bs) =
    if (a == 38) && (b == 35) then option_map (λ e. (e.0, e.1 + 2)) (numeric bs) else named entities (a ∷ b ∷ bs)
