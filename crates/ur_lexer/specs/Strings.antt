-- Strings: what stands behind the quote that opens one.
use Rattle.std.specs.Prelude.{◌≡◌, ◌<◌, length, take, IsCharBoundary, ℕ, ◌+◌, [], ◌∷◌, ◌++◌, drop, Option, Some, None, Result, Ok, Err, ◌==◌, if◌then◌else◌}
use Rattle.std.specs.Char.{encode_utf8}
use Rattle.surface_tree.specs.declared.kind.Kind.TheVariants.{StringLiteral}
use Rattle.surface_tree.specs.declared.token.Content.TheVariants.{Characters}
use Rattle.ur_lexer.specs.declared.fault.LexFault.{LexFault}
use Rattle.ur_lexer.specs.declared.fault.LexFault.TheVariants.{BadChar, OpenText}
use Rattle.ur_lexer.specs.declared.pieces.Found.{Found}
use Rattle.ur_lexer.specs.declared.state.Turn.TheVariants.{Stay}
use Rattle.ur_lexer.specs.declared.strings.StringPiece.{StringPiece}
use Rattle.ur_lexer.specs.declared.strings.StringPiece.TheVariants.{Plain, Escape, Unknown, Close, Open}
use Rattle.ur_lexer.specs.Bytes.{Bytes}

-- the character that an escape stands for, by the byte behind its backslash
abbrev pub escaped : ℕ → Option ℕ
escaped b =
    if b == 34 then Some 34 else
    (if b == 92 then Some 92 else
    (if b == 110 then Some 10 else (if b == 114 then Some 13 else (if b == 116 then Some 9 else None))))

-- what stands behind the quote that opens a string: its characters and how many bytes it takes with the quote
-- that closes it; or an unknown escape so many bytes on; or the end of the text before it is closed
pub data Quoted : Type 0 where
  closed : Bytes → ℕ → Quoted
  unknown : ℕ → Quoted
  open_ : Quoted

-- the same, where characters and bytes come before
abbrev pub behind : Bytes → ℕ → Quoted → Quoted
behind front n (closed content m) = closed (front ++ content) (n + m)
behind front n (unknown m) = unknown (n + m)
behind front n open_ = open_

abbrev pub behind_escape : Option ℕ → Quoted → Quoted
behind_escape None rest = unknown 0
behind_escape (Some c) rest = behind (encode_utf8 c) 2 rest

abbrev pub quoted : Bytes → Quoted
quoted [] = open_
quoted (b ∷ []) = if b == 34 then closed [] 1 else open_
quoted (b ∷ c ∷ bs) =
    if b == 34 then closed [] 1
    else (if b == 92 then behind_escape (escaped c) (quoted bs)
    else behind (b ∷ []) 1 (quoted (c ∷ bs)))

abbrev pub string_of : ℕ → Quoted → Result Found LexFault
string_of at (closed content n) =
    Ok (record { kind = StringLiteral; content = Characters content; len = 1 + n; turn = Stay })
string_of at (unknown n) = Err (BadChar (at + (1 + n)))
string_of at open_ = Err (OpenText at)

-- the string whose quote stands at the front
unfoldable pub string_token : Bytes → ℕ → Result Found LexFault
string_token bytes at = string_of at (quoted (drop 1 bytes))

-- what stands at the front inside a string, and what is left to read behind it
abbrev pub IsStringPiece : StringPiece → Bytes → Type 0
IsStringPiece (Plain n) bytes =
    (0 < n) × IsCharBoundary bytes n × (quoted bytes ≡ behind (take n bytes) n (quoted (drop n bytes)))
IsStringPiece (Escape c) bytes =
    IsCharBoundary bytes 2 × (quoted bytes ≡ behind (encode_utf8 c) 2 (quoted (drop 2 bytes)))
IsStringPiece Unknown bytes = (0 < length bytes) × (quoted bytes ≡ unknown 0)
IsStringPiece Close bytes = (0 < length bytes) × (quoted bytes ≡ closed [] 1)
IsStringPiece Open bytes = quoted bytes ≡ open_
