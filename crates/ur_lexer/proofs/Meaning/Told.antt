-- What the definition says of the front of a text is what is found there.
use Rattle.std.proofs.Common.{◌≡◌, ◌<◌, ◌≤◌, ℕ, Bool, true, false, [], ◌∷◌, length, drop, get_or, refl, sym, ap, ◌∙◌, arith, Option, Some, None}
use Rattle.std.specs.Prelude.{◌==◌, nat_le, Ok, Err}
use Rattle.std.proofs.lemmas.Bool.Decides.{nat_tests}
use Rattle.surface_tree.specs.declared.token.Content.{Content}
use Rattle.surface_tree.specs.declared.token.Content.TheVariants.{Nothing, Number, Characters}
use Rattle.ur_lexer.specs.declared.fault.LexFault.{LexFault}
use Rattle.ur_lexer.specs.declared.fault.LexFault.TheVariants.{BadChar, IntTooLarge}
use Rattle.ur_lexer.specs.declared.pieces.Found.{Found}
use Rattle.ur_lexer.specs.declared.lexer.Ahead.TheVariants.{End, Blank, Word}
use Rattle.ur_lexer.specs.declared.state.Mode.{Mode}
use Rattle.ur_lexer.specs.declared.state.Mode.TheVariants.{Code, Tag, Text}
use Rattle.ur_lexer.specs.Bytes.{Bytes}
use Rattle.ur_lexer.specs.Strings.{Quoted, quoted, unknown, open_}
use Rattle.ur_lexer.specs.Where.{Where}
use Rattle.ur_lexer.specs.Modes.{in_literal}
use Rattle.ur_lexer.specs.Ahead.{ahead_at, comment_ahead, word_ahead, has_spaces, at_comment, at_space}
use Rattle.ur_lexer.specs.Lexing.{NoBlank, IsLongest, IsHeld, IsToken, IsBlank, a_comment, a_space, IsFault, open_comment, too_large, open_text, bad_escape, bad_char}
use Rattle.ur_lexer.proofs.Front.Choices.{by_option}
use Rattle.ur_lexer.proofs.Front.Best.{best, best_longest, best_stands, string_found, spaced_string, eq_true}
use Rattle.ur_lexer.proofs.Front.Settled.{checked_content, missing, string_missing, settle, token_settles}
use Rattle.ur_lexer.proofs.Front.Fronts.{at_a_comment, at_a_space, at_the_end, at_a_token}

no_comment_at_end : (now : Mode) → at_comment now [] ≡ false
no_comment_at_end Code = refl
no_comment_at_end Tag = refl
no_comment_at_end Text = refl

no_space_at_end : (now : Mode) → at_space now [] ≡ false
no_space_at_end Code = refl
no_space_at_end Tag = refl
no_space_at_end Text = refl

pub end_ahead : (here : Where) (bs : Bytes) (at : ℕ) → bs ≡ [] → ahead_at here bs at ≡ Ok End
end_ahead here [] at h = at_the_end here [] at (no_comment_at_end here.mode) (no_space_at_end here.mode) refl
end_ahead here (b ∷ bs) at h = cc

pub blank_ahead : (here : Where) (bs : Bytes) (at n : ℕ) → IsBlank here.mode bs n → ahead_at here bs at ≡ Ok (Blank n)
blank_ahead here bs at n (a_comment c e) = at_a_comment here bs at c ∙ ap (comment_ahead at) e
blank_ahead here bs at n (a_space c s e) = at_a_space here bs at c s ∙ ap (λ (k : ℕ). Ok (Blank k)) (sym e)

some_bytes : (n : ℕ) → 0 < n → (n == 0) ≡ false
some_bytes n h = grind (arith, nat_tests)

-- the front, where no blank stands
at_token : (here : Where) (bs : Bytes) (at : ℕ) → NoBlank here.mode bs → 0 < length bs → ahead_at here bs at ≡ word_ahead (settle here.mode bs at (best here bs))
at_token here bs at n l = at_a_token here bs at n.0 n.1 (some_bytes (length bs) l) ∙ ap word_ahead (token_settles here bs at)

-- the longest token is found
longest_found : (here : Where) (bs : Bytes) (token : Found) → IsLongest here bs token → best here bs ≡ Some token
longest_found here bs token is =
    let more = best_longest here bs token is.stands in
    let back = is.longest more.token (best_stands here bs more.token is.some more.is) in
    more.is ∙ ap Some (sym (more.same (omega (arith, back, more.longer))))

held_checked : (at : ℕ) (token : Found) (content : Content) → IsHeld content → checked_content at token content ≡ Ok token
held_checked at token Nothing h = refl
held_checked at token (Number n) h = let t = fits n h in rw t refl
  where
    fits : (n : ℕ) → n ≤ 9223372036854775807 → nat_le n 9223372036854775807 ≡ true
    fits n h = grind (arith, nat_tests)
held_checked at token (Characters text) h = refl

large_checked : (at : ℕ) (token : Found) (n : ℕ) → 9223372036854775807 < n → checked_content at token (Number n) ≡ Err (IntTooLarge at)
large_checked at token n h = let t = above n h in rw t refl
  where
    above : (n : ℕ) → 9223372036854775807 < n → nat_le n 9223372036854775807 ≡ false
    above n h = grind (arith, nat_tests)

pub word_ahead_is : (here : Where) (bs : Bytes) (at : ℕ) (token : Found) → IsToken here bs token → ahead_at here bs at ≡ Ok (Word token)
word_ahead_is here bs at token is =
    at_token here bs at is.longest.no_blank is.longest.some ∙ ap (λ (o : Option Found). word_ahead (settle here.mode bs at o)) (longest_found here bs token is.longest) ∙ ap word_ahead (held_checked at token token.content is.held)

string_none : (here : Where) (bs : Bytes) (at : ℕ) (q : Quoted) → has_spaces here.mode ≡ true → get_or bs 0 0 ≡ 34 → quoted (drop 1 bs) ≡ q → string_found q ≡ None → settle here.mode bs at (best here bs) ≡ string_missing at q
string_none here bs at q s f e none =
    let is : best here bs ≡ None = spaced_string here.mode (in_literal here) bs s f ∙ ap string_found e ∙ none in
    let t = eq_true (get_or bs 0 0) 34 f in
    let told : missing here.mode bs at ≡ string_missing at (quoted (drop 1 bs)) = rw (s, t) refl in
    ap (settle here.mode bs at) is ∙ told ∙ ap (string_missing at) e

not_spaced : (now : Mode) (bs : Bytes) (at : ℕ) (s f : Bool) → has_spaces now ≡ s → (get_or bs 0 0 == 34) ≡ f → (s ≡ true → f ≡ true → ⊥) → missing now bs at ≡ Err (BadChar at)
not_spaced now bs at true true p q never = absurd (never refl refl)
not_spaced now bs at true false p q never = rw (p, q) refl
not_spaced now bs at false f p q never = rw p refl

quote_eq : (b : ℕ) → (b == 34) ≡ true → b ≡ 34
quote_eq b h = grind (arith, nat_tests)

pub fault_ahead : (here : Where) (bs : Bytes) (at : ℕ) (fault : LexFault) → IsFault here at bs fault → ahead_at here bs at ≡ Err fault
fault_ahead here bs at fault (open_comment c e f) = at_a_comment here bs at c ∙ ap (comment_ahead at) e ∙ ap Err (sym f)
fault_ahead here bs at fault (too_large token is n e l f) =
    at_token here bs at is.no_blank is.some ∙ ap (λ (o : Option Found). word_ahead (settle here.mode bs at o)) (longest_found here bs token is) ∙ ap (λ (x : Content). word_ahead (checked_content at token x)) e
    ∙ ap word_ahead (large_checked at token n l) ∙ ap Err (sym f)
fault_ahead here bs at fault (open_text c s l q e f) = at_token here bs at c l ∙ ap word_ahead (string_none here bs at open_ s q e refl) ∙ ap Err (sym f)
fault_ahead here bs at fault (bad_escape c s l q n e f) = at_token here bs at c l ∙ ap word_ahead (string_none here bs at (unknown n) s q e refl) ∙ ap Err (sym f)
fault_ahead here bs at fault (bad_char c l none never f) =
    let is : best here bs ≡ None = by_option (best here bs) (λ e. e) (λ token e. absurd (none token (best_stands here bs token l e))) in
    at_token here bs at c l ∙ ap (λ (o : Option Found). word_ahead (settle here.mode bs at o)) is
    ∙ ap word_ahead (not_spaced here.mode bs at (has_spaces here.mode) (get_or bs 0 0 == 34) refl refl (λ s q. never s (quote_eq (get_or bs 0 0) q))) ∙ ap Err (sym f)
