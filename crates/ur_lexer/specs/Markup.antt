-- The tokens between tags: runs of text and closing tags. The functions that end in `_token` are computed forms; what
-- the tokens are is said in Lexing.
use Rattle.std.specs.Prelude.{◌≡◌, ◌<◌, IsCharBoundary, ℕ, zero, suc, ◌+◌, ◌-◌, Bool, [], ◌∷◌, ◌++◌, ◌==◌, ◌&&◌, ◌||◌, not, length, take, drop, slice_index, Option, Some, None, Result, Ok, Err, if◌then◌else◌, nat_eq, nat_lt, codes}
use Rattle.std.specs.List.{prefix_len}
use Rattle.std.specs.Cmp.Lexicographic.{pointwise}
use Rattle.std.specs.Char.{is_ascii_lowercase, encode_utf8}
use Rattle.surface_tree.specs.declared.kind.Kind.TheVariants.{TagOpen, TagClose, XmlClose, TextRun, LeftBrace}
use Rattle.surface_tree.specs.declared.token.Content.TheVariants.{Nothing, Characters}
use Rattle.ur_lexer.specs.declared.fault.LexFault.{LexFault}
use Rattle.ur_lexer.specs.declared.fault.LexFault.TheVariants.{BadChar}
use Rattle.ur_lexer.specs.declared.pieces.Found.{Found}
use Rattle.ur_lexer.specs.declared.state.Turn.TheVariants.{Stay, EnterBrace, EnterTag, LeaveElement}
use Rattle.ur_lexer.specs.declared.markup.RunPiece.{RunPiece}
use Rattle.ur_lexer.specs.declared.markup.RunPiece.TheVariants.{Plain, Entity, End}
use Rattle.ur_lexer.specs.Bytes.{Bytes, is_space, is_tag_name_byte}
use Rattle.ur_lexer.specs.Comments.{opens}
use Rattle.ur_lexer.specs.Entities.{entity}

-- characters and a number of bytes, and those that follow
abbrev pub joined : Bytes → ℕ → Bytes × ℕ → Bytes × ℕ
joined front n run = (front ++ run.0, n + run.1)

-- of an entity: its character, and what follows its first byte, of which the others are skipped
abbrev pub after_entity : Option (ℕ × ℕ) → (ℕ → Bytes × ℕ) → Bytes × ℕ
after_entity None follows = ([], 0)
after_entity (Some e) follows = joined (encode_utf8 e.0) 1 (follows (e.1 - 1))

-- a run of text behind so many bytes that are skipped: the characters that it stands for, and how many bytes it
-- takes with those skipped. It ends before `<`, `{`, a comment and an unknown entity
abbrev pub run_from : ℕ → Bytes → Bytes × ℕ
run_from skipped [] = ([], 0)
run_from (suc skipped) (b ∷ bs) = joined [] 1 (run_from skipped bs)
run_from zero (b ∷ bs) =
    if (b == 60) || (b == 123) || opens (b ∷ bs) then ([], 0)
    else (if b == 38 then after_entity (entity (b ∷ bs)) (λ n. run_from n bs)
    else joined (b ∷ []) 1 (run_from 0 bs))

-- the run of text at the front
unfoldable pub run : Bytes → Bytes × ℕ
run bytes = run_from 0 bytes

-- what stands at the front of a run, and what is left to read behind it
abbrev pub IsRunPiece : RunPiece → Bytes → Type 0
IsRunPiece (Plain n) bytes =
    (0 < n) × IsCharBoundary bytes n × (run_from 0 bytes ≡ joined (take n bytes) n (run_from 0 (drop n bytes)))
IsRunPiece (Entity c n) bytes =
    (0 < n) × IsCharBoundary bytes n × (run_from 0 bytes ≡ joined (encode_utf8 c) n (run_from 0 (drop n bytes)))
IsRunPiece End bytes = run_from 0 bytes ≡ ([], 0)

-- the front of a tag, behind its `<`
unfoldable pub opening_token : Bytes → Result Found LexFault
opening_token bytes =
    let len = prefix_len is_tag_name_byte bytes in
    Ok (record { kind = TagOpen; content = Characters (take len bytes); len = len + 1; turn = EnterTag })

-- how many bytes stand behind the name of a closing tag: spaces and `>`
abbrev pub closing_end : Bytes → Option ℕ
closing_end bytes =
    let spaces = prefix_len is_space bytes in
    if nat_lt spaces (length bytes) && (slice_index bytes spaces == 62) then Some (spaces + 1) else None

abbrev pub closing_of : Bool → Bytes → Option ℕ → Option Found
closing_of in_literal name None = None
closing_of in_literal name (Some end) =
    if in_literal && pointwise nat_eq name (codes "xml") then Some (record {
      kind =
          XmlClose;
      content = Nothing;
      len = length name + end + 2;
      turn = LeaveElement;
    })
    else Some (record { kind = TagClose; content = Characters name; len = length name + end + 2; turn = LeaveElement })

-- a closing tag, behind its `</`: a name, and its end. Where no element is open `xml` closes the XML literal
abbrev pub closing : Bool → Bytes → Option Found
closing in_literal bytes =
    let len = prefix_len is_tag_name_byte bytes in
    if (len == 0) || not (is_ascii_lowercase (slice_index bytes 0)) then None
    else closing_of in_literal (take len bytes) (closing_end (drop len bytes))

-- a token, or else a fault at the place
abbrev pub or_bad : ℕ → Option Found → Result Found LexFault
or_bad at None = Err (BadChar at)
or_bad at (Some token) = Ok token

unfoldable pub closing_token : Bool → Bytes → ℕ → Result Found LexFault
closing_token in_literal bytes at = or_bad at (closing in_literal bytes)

-- a tag at the front, with its `<`
unfoldable pub mark_token : Bool → Bytes → ℕ → Result Found LexFault
mark_token in_literal bytes at =
    if nat_lt (length bytes) 2 then Err (BadChar at)
    else (if slice_index bytes 1 == 47 then closing_token in_literal (drop 2 bytes) at
    else (if is_ascii_lowercase (slice_index bytes 1) then opening_token (drop 1 bytes)
    else Err (BadChar at)))

abbrev pub run_of : ℕ → Bytes × ℕ → Result Found LexFault
run_of at run =
    if run.1 == 0 then Err (BadChar at) else Ok
    (record { kind = TextRun; content = Characters run.0; len = run.1; turn = Stay })

unfoldable pub run_token : Bytes → ℕ → Result Found LexFault
run_token bytes at = run_of at (run bytes)

-- the token at the front of text
unfoldable pub text_token : Bool → Bytes → ℕ → Result Found LexFault
text_token in_literal bytes at =
    let first = slice_index bytes 0 in
    if first == 60 then mark_token in_literal bytes at
    else (if first == 123 then Ok (record { kind = LeftBrace; content = Nothing; len = 1; turn = EnterBrace })
    else run_token bytes at)
