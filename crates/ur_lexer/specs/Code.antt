-- The tokens of code, and those of a tag, as they are computed by their first byte. What they are is said in Lexing,
-- which takes from here how a name of a table is made.
use Rattle.std.specs.Prelude.{ℕ, List, [], ◌==◌, length, take, slice_index, Option, Some, None, Result, Ok, Err, if◌then◌else◌}
use Rattle.std.specs.List.{prefix_len}
use Rattle.std.specs.Char.{is_ascii_lowercase, is_ascii_uppercase, is_ascii_digit}
use Rattle.surface_tree.specs.declared.kind.Kind.{Kind}
use Rattle.surface_tree.specs.declared.kind.Kind.TheVariants.{LowerName, UpperName, Integer, AttributeName}
use Rattle.surface_tree.specs.declared.token.Content.TheVariants.{Nothing, Number, Characters}
use Rattle.ur_lexer.specs.declared.fault.LexFault.{LexFault}
use Rattle.ur_lexer.specs.declared.fault.LexFault.TheVariants.{BadChar, IntTooLarge}
use Rattle.ur_lexer.specs.declared.pieces.Found.{Found}
use Rattle.ur_lexer.specs.declared.state.Turn.{Turn}
use Rattle.ur_lexer.specs.declared.state.Turn.TheVariants.{Stay}
use Rattle.ur_lexer.specs.declared.classes.Class.{Class}
use Rattle.ur_lexer.specs.declared.classes.Class.TheVariants.{Name, AttributeName as InAttributeName}
use Rattle.ur_lexer.specs.Bytes.{Bytes, has, begins_lower}
use Rattle.ur_lexer.specs.Words.{word_kind, symbol_at, keywords, upper_words, symbols, tag_symbols}
use Rattle.ur_lexer.specs.Numbers.{number_of}
use Rattle.ur_lexer.specs.Strings.{string_token}

-- a word of the table, or else a name of the kind
abbrev pub named_token : Option Kind → Kind → Bytes → Found
named_token (Some word) kind spelling = record { kind = word; content = Nothing; len = length spelling; turn = Stay }
named_token None kind spelling =
    record { kind = kind; content = Characters spelling; len = length spelling; turn = Stay }

-- the longest name at the front
unfoldable pub name_token : Class → List (Bytes × Kind) → Kind → Bytes → Result Found LexFault
name_token class table kind bytes =
    let spelling =
    take (prefix_len (has class) bytes) bytes in Ok (named_token (word_kind table spelling) kind spelling)

abbrev pub integer_of : ℕ → ℕ → Option ℕ → Result Found LexFault
integer_of at len (Some value) = Ok (record { kind = Integer; content = Number value; len = len; turn = Stay })
integer_of at len None = Err (IntTooLarge at)

-- the integer of all digits at the front
unfoldable pub integer_token : Bytes → ℕ → Result Found LexFault
integer_token bytes at =
    let len = prefix_len is_ascii_digit bytes in integer_of at len (number_of (take len bytes) 9223372036854775807)

abbrev pub symbol_of : ℕ → Option (Kind × ℕ × Turn) → Result Found LexFault
symbol_of at (Some symbol) = Ok (record { kind = symbol.0; content = Nothing; len = symbol.1; turn = symbol.2 })
symbol_of at None = Err (BadChar at)

unfoldable pub symbol_token : List (Bytes × Kind × Turn) → Bytes → ℕ → Result Found LexFault
symbol_token table bytes at = symbol_of at (symbol_at table bytes)

-- the token at the front of code
unfoldable pub code_token : Bytes → ℕ → Result Found LexFault
code_token bytes at =
    let first = slice_index bytes 0 in
    if begins_lower first then name_token Name keywords LowerName bytes
    else (if is_ascii_uppercase first then name_token Name upper_words UpperName bytes
    else (if is_ascii_digit first then integer_token bytes at
    else (if first == 34 then string_token bytes at
    else symbol_token symbols bytes at)))

-- the token at the front of the inside of a tag
unfoldable pub tag_token : Bytes → ℕ → Result Found LexFault
tag_token bytes at =
    let first = slice_index bytes 0 in
    if is_ascii_lowercase first then name_token InAttributeName [] AttributeName bytes
    else (if is_ascii_digit first then integer_token bytes at
    else (if first == 34 then string_token bytes at
    else symbol_token tag_symbols bytes at))
