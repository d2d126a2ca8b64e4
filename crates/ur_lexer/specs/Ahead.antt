-- What stands at the front of a text, as it is computed. What it is is said in Lexing, which takes from here where
-- spaces and comments stand.
use Rattle.std.specs.Prelude.{ℕ, Bool, true, false, ◌==◌, ◌&&◌, not, length, slice_index, Option, Some, None, Result, Ok, Err, if◌then◌else◌}
use Rattle.ur_lexer.specs.declared.fault.LexFault.{LexFault}
use Rattle.ur_lexer.specs.declared.fault.LexFault.TheVariants.{OpenComment}
use Rattle.ur_lexer.specs.declared.pieces.Found.{Found}
use Rattle.ur_lexer.specs.declared.lexer.Ahead.{Ahead}
use Rattle.ur_lexer.specs.declared.lexer.Ahead.TheVariants.{End, Blank, Word}
use Rattle.ur_lexer.specs.declared.state.Mode.{Mode}
use Rattle.ur_lexer.specs.declared.state.Mode.TheVariants.{Code, Tag, Text}
use Rattle.ur_lexer.specs.Bytes.{Bytes, is_space}
use Rattle.ur_lexer.specs.Comments.{opens, comment}
use Rattle.ur_lexer.specs.Code.{code_token, tag_token}
use Rattle.ur_lexer.specs.Markup.{text_token}
use Rattle.ur_lexer.specs.Modes.{in_literal}
use Rattle.ur_lexer.specs.Where.{Where}

-- comments stand in code and in text
abbrev pub has_comments : Mode → Bool
has_comments Code = true
has_comments Tag = false
has_comments Text = true

-- spaces are skipped in code and in tags
abbrev pub has_spaces : Mode → Bool
has_spaces Code = true
has_spaces Tag = true
has_spaces Text = false

abbrev pub at_comment : Mode → Bytes → Bool
at_comment mode bytes = has_comments mode && opens bytes

abbrev pub at_space : Mode → Bytes → Bool
at_space mode bytes = has_spaces mode && not (length bytes == 0) && is_space (slice_index bytes 0)

-- the token at the front
abbrev pub token_in : Mode → Bool → Bytes → ℕ → Result Found LexFault
token_in Code literal bytes at = code_token bytes at
token_in Tag literal bytes at = tag_token bytes at
token_in Text literal bytes at = text_token literal bytes at

unfoldable pub token_at : Where → Bytes → ℕ → Result Found LexFault
token_at here bytes at = token_in here.mode (in_literal here) bytes at

abbrev pub comment_ahead : ℕ → Option ℕ → Result Ahead LexFault
comment_ahead at (Some len) = Ok (Blank len)
comment_ahead at None = Err (OpenComment at)

abbrev pub word_ahead : Result Found LexFault → Result Ahead LexFault
word_ahead (Ok found) = Ok (Word found)
word_ahead (Err fault) = Err fault

-- what stands at the front
unfoldable pub ahead_at : Where → Bytes → ℕ → Result Ahead LexFault
ahead_at here bytes at =
    if at_comment here.mode bytes then comment_ahead at (comment bytes)
    else (if at_space here.mode bytes then Ok (Blank 1)
    else (if length bytes == 0 then Ok End
    else word_ahead (token_at here bytes at)))
