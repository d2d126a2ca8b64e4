-- Every text has a reading.
use Rattle.std.proofs.Common.{◌≡◌, ◌<◌, ◌≤◌, ◌+◌, ℕ, zero, suc, List, [], ◌∷◌, length, drop, refl, arith, length-drop}
use Rattle.std.specs.Prelude.{Result, Ok, Err}
use Rattle.surface_tree.specs.declared.token.Token.{Token}
use Rattle.ur_lexer.specs.declared.fault.LexFault.{LexFault}
use Rattle.ur_lexer.specs.declared.lexer.Ahead.{Ahead}
use Rattle.ur_lexer.specs.declared.lexer.Ahead.TheVariants.{End, Blank, Word}
use Rattle.ur_lexer.specs.Bytes.{Bytes}
use Rattle.ur_lexer.specs.Where.{Where}
use Rattle.ur_lexer.specs.Modes.{start, turned}
use Rattle.ur_lexer.specs.Ahead.{ahead_at}
use Rattle.ur_lexer.specs.Lexing.{Piece, blank, word, Ending, at_end, at_fault, IsCut, tokens_of, Lexes}
use Rattle.ur_lexer.proofs.Readings.Ends.{blank_some, stands_some}
use Rattle.ur_lexer.proofs.Meaning.Found.{ahead_end, ahead_blank, ahead_word, ahead_fault}

abbrev Reading : Where → ℕ → Bytes → Type 0
Reading here at bs = (pieces : List Piece) × (ending : Ending) × IsCut here at bs pieces ending

-- a reading that begins with what stands at the front
one_on : (here : Where) (at : ℕ) (bs : Bytes) (r : Result Ahead LexFault) → ahead_at here bs at ≡ r
    → ((n : ℕ) → 0 < n → (there : Where) (j : ℕ) → Reading there j (drop n bs)) → Reading here at bs
one_on here at bs (Ok End) e go = ([], at_end, ahead_end here bs at e)
one_on here at bs (Ok (Blank n)) e go =
    let is = ahead_blank here bs at n e in let more = go n (blank_some here.mode bs n is) here (at + n) in (blank n ∷ more.0, more.1, (is, more.2))
one_on here at bs (Ok (Word token)) e go =
    let is = ahead_word here bs at token e in
    let more = go token.len (stands_some here bs token is.longest.stands) (turned token.turn here) (at + token.len) in (word token ∷ more.0, more.1, (is, more.2))
one_on here at bs (Err fault) e go = ([], at_fault fault, ahead_fault here bs at fault e)

empty_drop : (n : ℕ) → ◌≡◌ {A = Bytes} (drop n []) []
empty_drop zero = refl
empty_drop (suc n) = refl

nothing_left : (n : ℕ) (bs : Bytes) → length bs ≤ 0 → drop n bs ≡ []
nothing_left n [] l = empty_drop n
nothing_left n (b ∷ bs) l = absurd (omega arith)

at_nothing : (here : Where) (at : ℕ) (bs : Bytes) → bs ≡ [] → Reading here at bs
at_nothing here at bs e = ([], at_end, e)

read_in : (fuel : ℕ) (here : Where) (at : ℕ) (bs : Bytes) → length bs ≤ fuel → Reading here at bs
read_in zero here at bs l = one_on here at bs (ahead_at here bs at) refl (λ n s there j. at_nothing there j (drop n bs) (nothing_left n bs l))
read_in (suc fuel) here at bs l =
    one_on here at bs (ahead_at here bs at) refl (λ n s there j. read_in fuel there j (drop n bs) (let long = length-drop n bs in omega (arith, long, s, l)))

pub some_reading : (text : Bytes) → (tokens : List Token) × (ending : Ending) × Lexes text tokens ending
some_reading text =
    let read = read_in (length text) start 0 text (omega arith) in
    (tokens_of 0 read.0, read.1, record { pieces = read.0; cut = read.2; tokens_are = refl })
