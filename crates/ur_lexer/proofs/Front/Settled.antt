-- The token at the front of a text, from the longest token there.
use Rattle.std.proofs.Common.{◌≡◌, ◌+◌, ℕ, suc, Bool, true, false, List, [], ◌∷◌, length, take, drop, get_or, refl, arith, Option, Some, None}
use Rattle.std.specs.Prelude.{◌&&◌, ◌||◌, ◌==◌, not, if◌then◌else◌, nat_le, nat_lt, nat_eq, Result, Ok, Err, codes}
use Rattle.std.specs.List.{prefix_len}
use Rattle.std.specs.Cmp.Lexicographic.{pointwise}
use Rattle.std.specs.Char.{is_ascii_lowercase, is_ascii_uppercase, is_ascii_digit}
use Rattle.std.proofs.lemmas.Bool.Decides.{nat_tests}
use Rattle.surface_tree.specs.declared.kind.Kind.{Kind}
use Rattle.surface_tree.specs.declared.kind.Kind.TheVariants.{LowerName, UpperName, AttributeName}
use Rattle.surface_tree.specs.declared.token.Content.{Content}
use Rattle.surface_tree.specs.declared.token.Content.TheVariants.{Nothing, Number, Characters}
use Rattle.ur_lexer.specs.declared.fault.LexFault.{LexFault}
use Rattle.ur_lexer.specs.declared.fault.LexFault.TheVariants.{BadChar, OpenText, IntTooLarge}
use Rattle.ur_lexer.specs.declared.pieces.Found.{Found}
use Rattle.ur_lexer.specs.declared.state.Mode.{Mode}
use Rattle.ur_lexer.specs.declared.state.Mode.TheVariants.{Code, Tag, Text}
use Rattle.ur_lexer.specs.declared.state.Turn.{Turn}
use Rattle.ur_lexer.specs.Bytes.{Bytes, begins_lower, is_name_byte, is_tag_name_byte, is_attribute_name_byte}
use Rattle.ur_lexer.specs.Words.{keywords, upper_words, symbols, tag_symbols, word_kind, symbol_at}
use Rattle.ur_lexer.specs.Numbers.{value_of, number_of}
use Rattle.ur_lexer.specs.Strings.{Quoted, quoted, closed, unknown, open_, string_of, string_token}
use Rattle.ur_lexer.specs.Code.{named_token, name_token, integer_token, symbol_of, symbol_token, code_token, tag_token}
use Rattle.ur_lexer.specs.Markup.{run, closing, closing_of, closing_end, or_bad, closing_token, opening_token, mark_token, run_token, text_token}
use Rattle.ur_lexer.specs.Ahead.{has_spaces, token_in, token_at}
use Rattle.ur_lexer.specs.Modes.{in_literal}
use Rattle.ur_lexer.specs.Where.{Where}
use Rattle.ur_lexer.proofs.Front.Choices.{by_test}
use Rattle.ur_lexer.proofs.Front.Symbols.{symbol_found}
use Rattle.ur_lexer.proofs.Front.Best.{best_name, best_integer, string_found, best_opening, run_found, best_code, best_tag, best_text, best_in, best}

abbrev pub checked_content : ℕ → Found → Content → Result Found LexFault
checked_content at token Nothing = Ok token
checked_content at token (Number n) = if nat_le n 9223372036854775807 then Ok token else Err (IntTooLarge at)
checked_content at token (Characters text) = Ok token

-- the longest token, unless it is an integer that is too large
abbrev pub checked : ℕ → Found → Result Found LexFault
checked at token = checked_content at token token.content

abbrev pub string_missing : ℕ → Quoted → Result Found LexFault
string_missing at (closed characters n) = Err (BadChar at)
string_missing at (unknown n) = Err (BadChar (at + (1 + n)))
string_missing at open_ = Err (OpenText at)

-- the fault where no token stands
abbrev pub missing : Mode → Bytes → ℕ → Result Found LexFault
missing now bs at = if has_spaces now && (get_or bs 0 0 == 34) then string_missing at (quoted (drop 1 bs)) else Err (BadChar at)

abbrev pub settle : Mode → Bytes → ℕ → Option Found → Result Found LexFault
settle now bs at None = missing now bs at
settle now bs at (Some token) = checked at token

checked_name : (at : ℕ) (o : Option Kind) (kind : Kind) (spelling : Bytes) → Ok (named_token o kind spelling) ≡ checked at (named_token o kind spelling)
checked_name at None kind spelling = refl
checked_name at (Some word) kind spelling = refl

name_settles : (goes_on : ℕ → Bool) (table : List (Bytes × Kind)) (kind : Kind) (bs : Bytes) (at : ℕ) → Ok (best_name goes_on table kind bs) ≡ checked at (best_name goes_on table kind bs)
name_settles goes_on table kind bs at = checked_name at (word_kind table (take (prefix_len goes_on bs) bs)) kind (take (prefix_len goes_on bs) bs)

integer_settles : (bs : Bytes) (at : ℕ) → integer_token bs at ≡ checked at (best_integer bs)
unfolding integer_token number_of
integer_settles bs at = by_test (nat_le (value_of (take (prefix_len is_ascii_digit bs) bs)) 9223372036854775807) (λ h. rw h refl) (λ h. rw h refl)

string_at : (now : Mode) (bs : Bytes) (at : ℕ) (q : Quoted) → has_spaces now ≡ true → (get_or bs 0 0 == 34) ≡ true → quoted (drop 1 bs) ≡ q → string_of at q ≡ settle now bs at (string_found q)
string_at now bs at (closed characters n) s f e = refl
string_at now bs at (unknown n) s f e = rw (s, f, e) refl
string_at now bs at open_ s f e = rw (s, f, e) refl

string_settles : (now : Mode) (bs : Bytes) (at : ℕ) → has_spaces now ≡ true → (get_or bs 0 0 == 34) ≡ true → string_token bs at ≡ settle now bs at (string_found (quoted (drop 1 bs)))
unfolding string_token
string_settles now bs at s f = string_at now bs at (quoted (drop 1 bs)) s f refl

symbol_at_settles : (now : Mode) (bs : Bytes) (at : ℕ) (o : Option (Kind × ℕ × Turn)) → has_spaces now ≡ true → (get_or bs 0 0 == 34) ≡ false → symbol_of at o ≡ settle now bs at (symbol_found o)
symbol_at_settles now bs at None s f = rw (s, f) refl
symbol_at_settles now bs at (Some x) s f = refl

symbol_settles : (table : List (Bytes × Kind × Turn)) (now : Mode) (bs : Bytes) (at : ℕ) → has_spaces now ≡ true → (get_or bs 0 0 == 34) ≡ false → symbol_token table bs at ≡ settle now bs at (symbol_found (symbol_at table bs))
unfolding symbol_token
symbol_settles table now bs at s f = symbol_at_settles now bs at (symbol_at table bs) s f

code_settles : (bs : Bytes) (at : ℕ) → code_token bs at ≡ settle Code bs at (best_code bs)
unfolding code_token name_token
code_settles bs at =
    by_test (begins_lower (get_or bs 0 0)) (λ h. rw h (name_settles is_name_byte keywords LowerName bs at))
    (λ h. by_test (is_ascii_uppercase (get_or bs 0 0)) (λ g. rw (h, g) (name_settles is_name_byte upper_words UpperName bs at))
    (λ g. by_test (is_ascii_digit (get_or bs 0 0)) (λ f. rw (h, g, f) (integer_settles bs at))
    (λ f. by_test (get_or bs 0 0 == 34) (λ e. rw (h, g, f, e) (string_settles Code bs at refl e))
    (λ e. rw (h, g, f, e) (symbol_settles symbols Code bs at refl e)))))

tag_settles : (bs : Bytes) (at : ℕ) → tag_token bs at ≡ settle Tag bs at (best_tag bs)
unfolding tag_token name_token
tag_settles bs at =
    by_test (is_ascii_lowercase (get_or bs 0 0)) (λ h. rw h (name_settles is_attribute_name_byte [] AttributeName bs at))
    (λ h. by_test (is_ascii_digit (get_or bs 0 0)) (λ f. rw (h, f) (integer_settles bs at))
    (λ f. by_test (get_or bs 0 0 == 34) (λ e. rw (h, f, e) (string_settles Tag bs at refl e))
    (λ e. rw (h, f, e) (symbol_settles tag_symbols Tag bs at refl e))))

closing_of_settles : (literal : Bool) (name bs : Bytes) (at : ℕ) (o : Option ℕ) → or_bad at (closing_of literal name o) ≡ settle Text bs at (closing_of literal name o)
closing_of_settles literal name bs at None = refl
closing_of_settles literal name bs at (Some end) = by_test (literal && pointwise nat_eq name (codes "xml")) (λ h. rw h refl) (λ h. rw h refl)

closing_settles : (literal : Bool) (rest bs : Bytes) (at : ℕ) → closing_token literal rest at ≡ settle Text bs at (closing literal rest)
unfolding closing_token
closing_settles literal rest bs at =
    by_test ((prefix_len is_tag_name_byte rest == 0) || not (is_ascii_lowercase (get_or rest 0 0)))
    (λ h. rw h refl)
    (λ h. rw h (closing_of_settles literal (take (prefix_len is_tag_name_byte rest) rest) bs at (closing_end (drop (prefix_len is_tag_name_byte rest) rest))))

run_settles : (bs : Bytes) (at : ℕ) → run_token bs at ≡ settle Text bs at (run_found (run bs))
unfolding run_token
run_settles bs at = by_test ((run bs).1 == 0) (λ h. rw h refl) (λ h. rw h refl)

mark_settles : (literal : Bool) (bs : Bytes) (at : ℕ) → mark_token literal bs at ≡ settle Text bs at (if get_or bs 1 0 == 47 then closing literal (drop 2 bs) else (if is_ascii_lowercase (get_or bs 1 0) then Some (best_opening (drop 1 bs)) else None))
unfolding mark_token opening_token
mark_settles literal [] at = refl
mark_settles literal (b ∷ []) at = refl
mark_settles literal (b ∷ c ∷ bs) at =
    let long = two_or_more (length bs) in
    by_test (c == 47) (λ h. rw (long, h) (closing_settles literal bs (b ∷ c ∷ bs) at))
    (λ h. by_test (is_ascii_lowercase c) (λ g. rw (long, h, g) refl) (λ g. rw (long, h, g) refl))
  where
    two_or_more : (n : ℕ) → nat_lt (suc (suc n)) 2 ≡ false
    two_or_more n = grind (arith, nat_tests)

text_settles : (literal : Bool) (bs : Bytes) (at : ℕ) → text_token literal bs at ≡ settle Text bs at (best_text literal bs)
unfolding text_token
text_settles literal bs at =
    by_test (get_or bs 0 0 == 60) (λ h. rw h (mark_settles literal bs at))
    (λ h. by_test (get_or bs 0 0 == 123) (λ g. rw (h, g) refl) (λ g. rw (h, g) (run_settles bs at)))

settles_in : (now : Mode) (literal : Bool) (bs : Bytes) (at : ℕ) → token_in now literal bs at ≡ settle now bs at (best_in now literal bs)
settles_in Code literal bs at = code_settles bs at
settles_in Tag literal bs at = tag_settles bs at
settles_in Text literal bs at = text_settles literal bs at

pub token_settles : (here : Where) (bs : Bytes) (at : ℕ) → token_at here bs at ≡ settle here.mode bs at (best here bs)
unfolding token_at
token_settles here bs at = settles_in here.mode (in_literal here) bs at
