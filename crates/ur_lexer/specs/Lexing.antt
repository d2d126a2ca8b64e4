-- Lexing: a text is cut into blanks and tokens, each token the longest that could begin at its place.
use Rattle.std.specs.Prelude.{◌≡◌, ◌<◌, ◌≤◌, ℕ, ◌+◌, Bool, true, false, List, [], ◌∷◌, length, take, drop, slice_index, Some, None, nat_eq, ◌⊎◌}
use Rattle.std.specs.List.{list_all, starts_with}
use Rattle.std.specs.Char.{is_ascii_lowercase, is_ascii_uppercase, is_ascii_digit}
use Rattle.surface_tree.specs.declared.kind.Kind.{Kind}
use Rattle.surface_tree.specs.declared.kind.Kind.TheVariants.{LowerName, UpperName, AttributeName, Integer, StringLiteral, TagOpen, TextRun, LeftBrace}
use Rattle.surface_tree.specs.declared.token.Content.{Content}
use Rattle.surface_tree.specs.declared.token.Content.TheVariants.{Nothing, Number, Characters}
use Rattle.surface_tree.specs.declared.token.Token.{Token}
use Rattle.ur_lexer.specs.declared.fault.LexFault.{LexFault}
use Rattle.ur_lexer.specs.declared.fault.LexFault.TheVariants.{BadChar, OpenText, OpenComment, IntTooLarge, Memory}
use Rattle.ur_lexer.specs.declared.pieces.Found.{Found}
use Rattle.ur_lexer.specs.declared.state.Mode.{Mode}
use Rattle.ur_lexer.specs.declared.state.Mode.TheVariants.{Code, Tag, Text}
use Rattle.ur_lexer.specs.declared.state.Turn.{Turn}
use Rattle.ur_lexer.specs.declared.state.Turn.TheVariants.{Stay, EnterBrace, EnterTag}
use Rattle.ur_lexer.specs.Bytes.{Bytes, begins_lower, is_name_byte, is_tag_name_byte, is_attribute_name_byte}
use Rattle.ur_lexer.specs.Words.{keywords, upper_words, symbols, tag_symbols, word_kind}
use Rattle.ur_lexer.specs.Numbers.{value_of}
use Rattle.ur_lexer.specs.Comments.{comment}
use Rattle.ur_lexer.specs.Strings.{quoted, closed, unknown, open_}
use Rattle.ur_lexer.specs.Code.{named_token}
use Rattle.ur_lexer.specs.Markup.{run, closing}
use Rattle.ur_lexer.specs.Ahead.{at_comment, at_space, has_spaces}
use Rattle.ur_lexer.specs.Modes.{start, turned, in_literal}
use Rattle.ur_lexer.specs.Where.{Where}

-- ---- what a token is

-- a name: its first byte begins one, all its bytes go on one. A word of the table has a kind of its own
pub record IsName (begins goes_on : ℕ → Bool) (table : List (Bytes × Kind)) (kind : Kind) (bytes : Bytes)
    (token : Found) : Type 0 where
  pub some : 0 < token.len
  pub within : token.len ≤ length bytes
  pub first : begins (slice_index bytes 0) ≡ true
  pub all : list_all goes_on (take token.len bytes) ≡ true
  pub is : token ≡ named_token (word_kind table (take token.len bytes)) kind (take token.len bytes)

-- an integer: digits, and the number that they write
pub record IsInteger (bytes : Bytes) (token : Found) : Type 0 where
  pub some : 0 < token.len
  pub within : token.len ≤ length bytes
  pub all : list_all is_ascii_digit (take token.len bytes) ≡ true
  pub is : token
      ≡ record { kind = Integer; content = Number (value_of (take token.len bytes)); len = token.len; turn = Stay }

-- a string: from its quote to the quote that closes it, and the characters that it stands for
pub record IsString (bytes : Bytes) (token : Found) : Type 0 where
  pub first : slice_index bytes 0 ≡ 34
  pub characters : Bytes
  pub size : ℕ
  pub closes : quoted (drop 1 bytes) ≡ closed characters size
  pub is : token ≡ record { kind = StringLiteral; content = Characters characters; len = 1 + size; turn = Stay }

-- a symbol: the bytes begin with the spelling of an entry of the table
abbrev pub IsEntry : Bytes → Found → Bytes × Kind × Turn → Type 0
IsEntry bytes token entry =
    (0 < length entry.0) × (starts_with nat_eq bytes entry.0 ≡ true)
    × (token ≡ record { kind = entry.1; content = Nothing; len = length entry.0; turn = entry.2 })

abbrev pub IsSymbol : List (Bytes × Kind × Turn) → Bytes → Found → Type 0
IsSymbol [] bytes token = ⊥
IsSymbol (entry ∷ table) bytes token = IsEntry bytes token entry ⊎ IsSymbol table bytes token

-- the front of a tag: `<`, and a name of lower-case letters and digits that begins with a letter
pub record IsOpening (bytes : Bytes) (token : Found) : Type 0 where
  pub mark : slice_index bytes 0 ≡ 60
  pub first : is_ascii_lowercase (slice_index bytes 1) ≡ true
  pub size : ℕ
  pub some : 0 < size
  pub within : 1 + size ≤ length bytes
  pub all : list_all is_tag_name_byte (take size (drop 1 bytes)) ≡ true
  pub is : token
      ≡ record { kind = TagOpen; content = Characters (take size (drop 1 bytes)); len = size + 1; turn = EnterTag }

-- a closing tag: `</`, and what stands behind it
pub record IsClosing (literal : Bool) (bytes : Bytes) (token : Found) : Type 0 where
  pub mark : slice_index bytes 0 ≡ 60
  pub slash : slice_index bytes 1 ≡ 47
  pub is : closing literal (drop 2 bytes) ≡ Some token

-- a run of text: what stands up to the next `<`, `{`, comment or unknown entity, if it is anything
pub record IsRun (bytes : Bytes) (token : Found) : Type 0 where
  pub some : 0 < (run bytes).1
  pub is : token ≡ record { kind = TextRun; content = Characters (run bytes).0; len = (run bytes).1; turn = Stay }

-- the tokens that could begin at the front of the bytes, by the mode
pub data Stands (here : Where) (bytes : Bytes) (token : Found) : Type 0 where
  lower_name : here.mode ≡ Code → IsName begins_lower is_name_byte keywords LowerName bytes token
      → Stands here bytes token
  upper_name : here.mode ≡ Code → IsName is_ascii_uppercase is_name_byte upper_words UpperName bytes token
      → Stands here bytes token
  attribute_name : here.mode ≡ Tag → IsName is_ascii_lowercase is_attribute_name_byte [] AttributeName bytes token
      → Stands here bytes token
  integer : has_spaces here.mode ≡ true → IsInteger bytes token → Stands here bytes token
  string : has_spaces here.mode ≡ true → IsString bytes token → Stands here bytes token
  symbol : here.mode ≡ Code → IsSymbol symbols bytes token → Stands here bytes token
  tag_symbol : here.mode ≡ Tag → IsSymbol tag_symbols bytes token → Stands here bytes token
  opening : here.mode ≡ Text → IsOpening bytes token → Stands here bytes token
  closing_tag : here.mode ≡ Text → IsClosing (in_literal here) bytes token → Stands here bytes token
  brace : here.mode ≡ Text → slice_index bytes 0 ≡ 123
      → token ≡ record { kind = LeftBrace; content = Nothing; len = 1; turn = EnterBrace } → Stands here bytes token
  run_of_text : here.mode ≡ Text → IsRun bytes token → Stands here bytes token

-- ---- which token begins at a place

-- no blank begins at the front: neither a comment nor a space that is skipped
abbrev pub NoBlank : Mode → Bytes → Type 0
NoBlank mode bytes = (at_comment mode bytes ≡ false) × (at_space mode bytes ≡ false)

-- of the tokens that could begin at the front, it is the longest
pub record IsLongest (here : Where) (bytes : Bytes) (token : Found) : Type 0 where
  pub no_blank : NoBlank here.mode bytes
  pub some : 0 < length bytes
  pub stands : Stands here bytes token
  pub longest : (other : Found) → Stands here bytes other → other.len ≤ token.len

-- what a token holds is no number above the greatest integer
abbrev pub IsHeld : Content → Type 0
IsHeld Nothing = Unit {0}
IsHeld (Number n) = n ≤ 9223372036854775807
IsHeld (Characters text) = Unit {0}

-- the token at the front
pub record IsToken (here : Where) (bytes : Bytes) (token : Found) : Type 0 where
  pub longest : IsLongest here bytes token
  pub held : IsHeld token.content

-- so many bytes at the front are a blank: a comment, or one space
pub data IsBlank (mode : Mode) (bytes : Bytes) (n : ℕ) : Type 0 where
  a_comment : at_comment mode bytes ≡ true → comment bytes ≡ Some n → IsBlank mode bytes n
  a_space : at_comment mode bytes ≡ false → at_space mode bytes ≡ true → n ≡ 1 → IsBlank mode bytes n

-- ---- faults

-- why nothing can be read at the front of the bytes, which stand at this place
pub data IsFault (here : Where) (at : ℕ) (bytes : Bytes) (fault : LexFault) : Type 0 where
  -- a comment begins and the text ends in it
  open_comment : at_comment here.mode bytes ≡ true → comment bytes ≡ None → fault ≡ OpenComment at
      → IsFault here at bytes fault
  -- the longest token is an integer that is too large
  too_large : (token : Found) → IsLongest here bytes token → (n : ℕ) → token.content ≡ Number n
      → 9223372036854775807 < n → fault ≡ IntTooLarge at → IsFault here at bytes fault
  -- a string begins and the text ends in it
  open_text : NoBlank here.mode bytes → has_spaces here.mode ≡ true → 0 < length bytes → slice_index bytes 0 ≡ 34
      → quoted (drop 1 bytes) ≡ open_ → fault ≡ OpenText at → IsFault here at bytes fault
  -- a string begins and has an unknown escape so many bytes behind its quote
  bad_escape : NoBlank here.mode bytes → has_spaces here.mode ≡ true → 0 < length bytes → slice_index bytes 0 ≡ 34
      → (n : ℕ) → quoted (drop 1 bytes) ≡ unknown n → fault ≡ BadChar (at + (1 + n)) → IsFault here at bytes fault
  -- no token begins, and no string
  bad_char : NoBlank here.mode bytes → 0 < length bytes → ((token : Found) → Stands here bytes token → ⊥)
      → (has_spaces here.mode ≡ true → slice_index bytes 0 ≡ 34 → ⊥) → fault ≡ BadChar at
      → IsFault here at bytes fault

-- ---- a whole text

-- a piece of a text: a blank of so many bytes, or a token
pub data Piece : Type 0 where
  blank : ℕ → Piece
  word : Found → Piece

-- where the reading of a text ends: at the text's end, or at a fault
pub data Ending : Type 0 where
  at_end : Ending
  at_fault : LexFault → Ending

-- the bytes, which stand at this place, are these pieces one behind another, up to this ending
abbrev pub IsCut : Where → ℕ → Bytes → List Piece → Ending → Type 0
IsCut here at bytes [] at_end = bytes ≡ []
IsCut here at bytes [] (at_fault fault) = IsFault here at bytes fault
IsCut here at bytes (blank n ∷ pieces) ending =
    IsBlank here.mode bytes n × IsCut here (at + n) (drop n bytes) pieces ending
IsCut here at bytes (word token ∷ pieces) ending =
    IsToken here bytes token × IsCut (turned token.turn here) (at + token.len) (drop token.len bytes) pieces ending

-- the tokens among the pieces, with their places
abbrev pub tokens_of : ℕ → List Piece → List Token
tokens_of at [] = []
tokens_of at (blank n ∷ pieces) = tokens_of (at + n) pieces
tokens_of at (word token ∷ pieces) =
    record { kind = token.kind; at = at; content = token.content } ∷ tokens_of (at + token.len) pieces

-- the text has these tokens up to this ending
pub record Lexes (text : Bytes) (tokens : List Token) (ending : Ending) : Type 0 where
  pub pieces : List Piece
  pub cut : IsCut start 0 text pieces ending
  pub tokens_are : tokens_of 0 pieces ≡ tokens

-- ---- laws

-- a text has one list of tokens and one ending
abbrev pub TextsHaveOneReading : Type 0
TextsHaveOneReading =
    (text : Bytes) (tokens others : List Token) (ending other : Ending) → Lexes text tokens ending
    → Lexes text others other → (tokens ≡ others) × (ending ≡ other)

-- every text has one
abbrev pub TextsHaveAReading : Type 0
TextsHaveAReading = (text : Bytes) → (tokens : List Token) × (ending : Ending) × Lexes text tokens ending

-- what a told fault means: the reading of the text ends there. Want of memory means nothing of the text
abbrev pub IsTold : Bytes → LexFault → Type 0
IsTold text Memory = Unit {0}
IsTold text (BadChar at) = (tokens : List Token) × Lexes text tokens (at_fault (BadChar at))
IsTold text (OpenText at) = (tokens : List Token) × Lexes text tokens (at_fault (OpenText at))
IsTold text (OpenComment at) = (tokens : List Token) × Lexes text tokens (at_fault (OpenComment at))
IsTold text (IntTooLarge at) = (tokens : List Token) × Lexes text tokens (at_fault (IntTooLarge at))
