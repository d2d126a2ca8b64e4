-- What is found at the front of a text is what the definition says.
use Rattle.std.proofs.Common.{◌≡◌, ◌<◌, ◌≤◌, ℕ, Bool, true, false, [], ◌∷◌, length, drop, get_or, refl, sym, ap, ◌∙◌, subst, arith, Option, Some, None}
use Rattle.std.specs.Prelude.{◌==◌, ◌&&◌, nat_le, Result, Ok, Err}
use Rattle.std.proofs.lemmas.Bool.Decides.{nat_tests}
use Rattle.std.proofs.lemmas.Bool.{and_parts}
use Rattle.surface_tree.specs.declared.token.Content.{Content}
use Rattle.surface_tree.specs.declared.token.Content.TheVariants.{Nothing, Number, Characters}
use Rattle.ur_lexer.specs.declared.fault.LexFault.{LexFault}
use Rattle.ur_lexer.specs.declared.fault.LexFault.TheVariants.{BadChar, OpenComment, IntTooLarge}
use Rattle.ur_lexer.specs.declared.pieces.Found.{Found}
use Rattle.ur_lexer.specs.declared.lexer.Ahead.{Ahead}
use Rattle.ur_lexer.specs.declared.lexer.Ahead.TheVariants.{End, Blank, Word}
use Rattle.ur_lexer.specs.declared.state.Mode.{Mode}
use Rattle.ur_lexer.specs.Bytes.{Bytes}
use Rattle.ur_lexer.specs.Comments.{comment}
use Rattle.ur_lexer.specs.Strings.{Quoted, quoted, closed, unknown, open_}
use Rattle.ur_lexer.specs.Where.{Where}
use Rattle.ur_lexer.specs.Modes.{in_literal}
use Rattle.ur_lexer.specs.Ahead.{ahead_at, comment_ahead, word_ahead, token_at, has_spaces}
use Rattle.ur_lexer.specs.Lexing.{Stands, NoBlank, IsLongest, IsHeld, IsToken, IsBlank, a_comment, a_space, IsFault, open_comment, too_large, open_text, bad_escape, bad_char}
use Rattle.ur_lexer.proofs.Front.Choices.{by_test}
use Rattle.ur_lexer.proofs.Front.Best.{best, best_longest, best_stands, string_found, spaced_string, true_eq, eq_true}
use Rattle.ur_lexer.proofs.Front.Settled.{checked_content, missing, string_missing, settle, token_settles}
use Rattle.ur_lexer.proofs.Front.Fronts.{front_cases}

Look : Type 0
Look = Result Ahead LexFault

-- ---- the end, and blanks

empty : (bs : Bytes) → length bs ≡ 0 → bs ≡ []
empty [] h = refl
empty (b ∷ bs) h = absurd (omega arith)

comment_no_end : (at : ℕ) (o : Option ℕ) → comment_ahead at o ≡ Ok End → ⊥
comment_no_end at None h = cc
comment_no_end at (Some n) h = cc

word_no_end : (r : Result Found LexFault) → word_ahead r ≡ Ok End → ⊥
word_no_end (Ok t) h = cc
word_no_end (Err f) h = cc

pub ahead_end : (here : Where) (bs : Bytes) (at : ℕ) → ahead_at here bs at ≡ Ok End → bs ≡ []
ahead_end here bs at h =
    front_cases here bs at (Ok End) h
    (λ c e. absurd (comment_no_end at (comment bs) e))
    (λ c s e. cc e)
    (λ n e. empty bs n)
    (λ n l e. absurd (word_no_end (token_at here bs at) e))

comment_blank : (at n : ℕ) (o : Option ℕ) → comment_ahead at o ≡ Ok (Blank n) → o ≡ Some n
comment_blank at n None h = cc
comment_blank at n (Some m) h = cc

word_no_blank : (r : Result Found LexFault) (n : ℕ) → word_ahead r ≡ Ok (Blank n) → ⊥
word_no_blank (Ok t) n h = cc
word_no_blank (Err f) n h = cc

one_blank : (n : ℕ) → ◌≡◌ {A = Result Ahead LexFault} (Ok (Blank 1)) (Ok (Blank n)) → n ≡ 1
one_blank n h = cc

pub ahead_blank : (here : Where) (bs : Bytes) (at n : ℕ) → ahead_at here bs at ≡ Ok (Blank n) → IsBlank here.mode bs n
ahead_blank here bs at n h =
    front_cases here bs at (Ok (Blank n)) h
    (λ c e. a_comment c (comment_blank at n (comment bs) e))
    (λ c s e. a_space c s (one_blank n e))
    (λ l e. cc e)
    (λ c l e. absurd (word_no_blank (token_at here bs at) n e))

-- ---- tokens

comment_no_word : (at : ℕ) (token : Found) (o : Option ℕ) → comment_ahead at o ≡ Ok (Word token) → ⊥
comment_no_word at token None h = cc
comment_no_word at token (Some m) h = cc

word_is : (r : Result Found LexFault) (token : Found) → word_ahead r ≡ Ok (Word token) → r ≡ Ok token
word_is (Ok t) token h = cc
word_is (Err f) token h = cc

held_content : (at : ℕ) (a b : Found) (content : Content) → checked_content at a content ≡ Ok b → (a ≡ b) × IsHeld content
held_content at a b Nothing h = (cc, tt)
held_content at a b (Number n) h =
    by_test (nat_le n 9223372036854775807)
    (λ t. let here : checked_content at a (Number n) ≡ Ok a = rw t refl in (let same : ◌≡◌ {A = Result Found LexFault} (Ok a) (Ok b) = sym here ∙ h in cc same, fits n t))
    (λ t. let here : checked_content at a (Number n) ≡ Err (IntTooLarge at) = rw t refl in let no : ◌≡◌ {A = Result Found LexFault} (Err (IntTooLarge at)) (Ok b) = sym here ∙ h in cc no)
  where
    fits : (n : ℕ) → nat_le n 9223372036854775807 ≡ true → n ≤ 9223372036854775807
    fits n t = grind (arith, nat_tests)
held_content at a b (Characters text) h = (cc, tt)

string_no_token : (at : ℕ) (q : Quoted) (token : Found) → string_missing at q ≡ Ok token → ⊥
string_no_token at (closed characters n) token h = cc
string_no_token at (unknown n) token h = cc
string_no_token at open_ token h = cc

missing_no_token : (now : Mode) (bs : Bytes) (at : ℕ) (token : Found) → missing now bs at ≡ Ok token → ⊥
missing_no_token now bs at token h =
    by_test (has_spaces now && (get_or bs 0 0 == 34))
    (λ t. let here : missing now bs at ≡ string_missing at (quoted (drop 1 bs)) = rw t refl in string_no_token at (quoted (drop 1 bs)) token (sym here ∙ h))
    (λ t. let here : missing now bs at ≡ Err (BadChar at) = rw t refl in let no : ◌≡◌ {A = Result Found LexFault} (Err (BadChar at)) (Ok token) = sym here ∙ h in cc no)

settled : (now : Mode) (bs : Bytes) (at : ℕ) (o : Option Found) (token : Found) → settle now bs at o ≡ Ok token → (o ≡ Some token) × IsHeld token.content
settled now bs at None token h = absurd (missing_no_token now bs at token h)
settled now bs at (Some u) token h =
    let e = held_content at u token u.content h in (ap Some e.0, subst (λ (x : Found). IsHeld x.content) e.0 e.1)

some_token : (a b : Found) → ◌≡◌ {A = Option Found} (Some a) (Some b) → a ≡ b
some_token a b e = cc

-- what is found is the longest
pub found_longest : (here : Where) (bs : Bytes) (token : Found) → NoBlank here.mode bs → 0 < length bs → best here bs ≡ Some token → IsLongest here bs token
found_longest here bs token n l e = record {
  no_blank = n;
  some = l;
  stands = best_stands here bs token l e;
  longest = λ other s. (let more = best_longest here bs other s in let same = some_token more.token token (sym more.is ∙ e) in subst (λ (x : Found). other.len ≤ x.len) same more.longer);
}

pub ahead_word : (here : Where) (bs : Bytes) (at : ℕ) (token : Found) → ahead_at here bs at ≡ Ok (Word token) → IsToken here bs token
ahead_word here bs at token h =
    front_cases here bs at (Ok (Word token)) h
    (λ c e. absurd (comment_no_word at token (comment bs) e))
    (λ c s e. cc e)
    (λ l e. cc e)
    (λ n l e.
    let is = settled here.mode bs at (best here bs) token (sym (token_settles here bs at) ∙ word_is (token_at here bs at) token e) in
    record { longest = found_longest here bs token n l is.0; held = is.1 })

-- ---- faults

comment_fault : (at : ℕ) (fault : LexFault) (o : Option ℕ) → comment_ahead at o ≡ Err fault → (o ≡ None) × (fault ≡ OpenComment at)
comment_fault at fault None h = (refl, cc)
comment_fault at fault (Some m) h = cc

word_fault : (r : Result Found LexFault) (fault : LexFault) → word_ahead r ≡ Err fault → r ≡ Err fault
word_fault (Ok t) fault h = cc
word_fault (Err f) fault h = cc

too_large_content : (at : ℕ) (token : Found) (content : Content) (fault : LexFault) → checked_content at token content ≡ Err fault → (n : ℕ) × (content ≡ Number n) × (9223372036854775807 < n) × (fault ≡ IntTooLarge at)
too_large_content at token Nothing fault h = cc
too_large_content at token (Number n) fault h =
    by_test (nat_le n 9223372036854775807)
    (λ t. let here : checked_content at token (Number n) ≡ Ok token = rw t refl in let no : ◌≡◌ {A = Result Found LexFault} (Ok token) (Err fault) = sym here ∙ h in cc no)
    (λ t. let here : checked_content at token (Number n) ≡ Err (IntTooLarge at) = rw t refl in let same : ◌≡◌ {A = Result Found LexFault} (Err (IntTooLarge at)) (Err fault) = sym here ∙ h in (n, refl, above n t, cc same))
  where
    above : (n : ℕ) → nat_le n 9223372036854775807 ≡ false → 9223372036854775807 < n
    above n t = grind (arith, nat_tests)
too_large_content at token (Characters text) fault h = cc

none_stands : (here : Where) (bs : Bytes) → best here bs ≡ None → (token : Found) → Stands here bs token → ⊥
none_stands here bs e token s =
    let more = best_longest here bs token s in let no : ◌≡◌ {A = Option Found} None (Some more.token) = sym e ∙ more.is in cc no

string_fault : (here : Where) (at : ℕ) (bs : Bytes) (fault : LexFault) (q : Quoted) → NoBlank here.mode bs → has_spaces here.mode ≡ true → 0 < length bs → get_or bs 0 0 ≡ 34 → best here bs ≡ None → quoted (drop 1 bs) ≡ q
    → string_missing at q ≡ Err fault → IsFault here at bs fault
string_fault here at bs fault (closed characters n) c s l f none q h =
    let token = string_found (closed characters n) in
    let no : None ≡ token = sym none ∙ spaced_string here.mode (in_literal here) bs s f ∙ ap string_found q in cc no
string_fault here at bs fault (unknown n) c s l f none q h = bad_escape c s l f n q (cc)
string_fault here at bs fault open_ c s l f none q h = open_text c s l f q (cc)

missing_fault : (here : Where) (at : ℕ) (bs : Bytes) (fault : LexFault) → NoBlank here.mode bs → 0 < length bs → best here bs ≡ None → missing here.mode bs at ≡ Err fault → IsFault here at bs fault
missing_fault here at bs fault c l none h =
    by_test (has_spaces here.mode && (get_or bs 0 0 == 34))
    (λ t.
    let is : missing here.mode bs at ≡ string_missing at (quoted (drop 1 bs)) = rw t refl in
    string_fault here at bs fault (quoted (drop 1 bs)) c (and_parts _ _ t).0 l (true_eq (get_or bs 0 0) 34 (and_parts (has_spaces here.mode) _ t).1) none refl (sym is ∙ h))
    (λ t.
    let is : missing here.mode bs at ≡ Err (BadChar at) = rw t refl in
    let same : ◌≡◌ {A = Result Found LexFault} (Err (BadChar at)) (Err fault) = sym is ∙ h in
    bad_char c l (none_stands here bs none) (λ s f. (let q = eq_true (get_or bs 0 0) 34 f in let both : (has_spaces here.mode && (get_or bs 0 0 == 34)) ≡ true = rw (s, q) refl in let no : ◌≡◌ {A = Bool} true false = sym both ∙ t in cc no)) (cc same))

settled_fault : (here : Where) (at : ℕ) (bs : Bytes) (fault : LexFault) (o : Option Found) → NoBlank here.mode bs → 0 < length bs → best here bs ≡ o → settle here.mode bs at o ≡ Err fault → IsFault here at bs fault
settled_fault here at bs fault None c l e h = missing_fault here at bs fault c l e h
settled_fault here at bs fault (Some token) c l e h =
    let large = too_large_content at token token.content fault h in
    too_large token (found_longest here bs token c l e) large.0 large.1 large.2 large.3

pub ahead_fault : (here : Where) (bs : Bytes) (at : ℕ) (fault : LexFault) → ahead_at here bs at ≡ Err fault → IsFault here at bs fault
ahead_fault here bs at fault h =
    front_cases here bs at (Err fault) h
    (λ c e. let is = comment_fault at fault (comment bs) e in open_comment c is.0 is.1)
    (λ c s e. cc e)
    (λ l e. cc e)
    (λ n l e. settled_fault here at bs fault (best here bs) n l refl (sym (token_settles here bs at) ∙ word_fault (token_at here bs at) fault e))
