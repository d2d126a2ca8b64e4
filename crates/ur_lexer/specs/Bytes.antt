-- Kinds of bytes.
use Rattle.std.specs.Prelude.{ℕ, Bool, not, List, ◌==◌, ◌||◌, ◌&&◌}
use Rattle.std.specs.Char.{is_ascii_lowercase, is_ascii_digit, is_ascii_alphanumeric}
use Rattle.ur_lexer.specs.declared.classes.Class.{Class}
use Rattle.ur_lexer.specs.declared.classes.Class.TheVariants.{Name, TagName, AttributeName, Digit, Space, InString, InText}

abbrev pub Bytes : Type 0
Bytes = List ℕ

-- a tab, a line feed, a carriage return or a space
abbrev pub is_space : ℕ → Bool
is_space b = (b == 9) || (b == 10) || (b == 13) || (b == 32)

-- a lower-case name begins with a lower-case letter or `_`
abbrev pub begins_lower : ℕ → Bool
begins_lower b = is_ascii_lowercase b || (b == 95)

-- what goes on a name in code: letters, digits, `_` and `'`
abbrev pub is_name_byte : ℕ → Bool
is_name_byte b = is_ascii_alphanumeric b || (b == 95) || (b == 39)

-- what goes on the name of an element: lower-case letters and digits
abbrev pub is_tag_name_byte : ℕ → Bool
is_tag_name_byte b = is_ascii_lowercase b || is_ascii_digit b

-- what goes on the name of an attribute: lower-case letters, digits, `_` and `-`
abbrev pub is_attribute_name_byte : ℕ → Bool
is_attribute_name_byte b = is_ascii_lowercase b || is_ascii_digit b || (b == 95) || (b == 45)

-- what stands for itself in a string: all but `"` and the backslash
abbrev pub is_in_string : ℕ → Bool
is_in_string b = not (b == 34) && not (b == 92)

-- what stands for itself between tags, whatever follows it: all but `<`, `{`, `&` and `(`
abbrev pub is_in_text : ℕ → Bool
is_in_text b = not (b == 60) && not (b == 123) && not (b == 38) && not (b == 40)

abbrev pub has : Class → ℕ → Bool
has Name b = is_name_byte b
has TagName b = is_tag_name_byte b
has AttributeName b = is_attribute_name_byte b
has Digit b = is_ascii_digit b
has Space b = is_space b
has InString b = is_in_string b
has InText b = is_in_text b

-- the classes of which all bytes are ASCII
abbrev pub IsNarrow : Class → Type 0
IsNarrow Name = Unit {0}
IsNarrow TagName = Unit {0}
IsNarrow AttributeName = Unit {0}
IsNarrow Digit = Unit {0}
IsNarrow Space = Unit {0}
IsNarrow InString = ⊥
IsNarrow InText = ⊥
