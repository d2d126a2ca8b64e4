-- A text has one reading.
use Rattle.std.proofs.Common.{◌≡◌, ◌+◌, ℕ, List, [], ◌∷◌, drop, refl, sym, ap, ◌∙◌, subst}
use Rattle.std.specs.Prelude.{Result, Ok, Err}
use Rattle.surface_tree.specs.declared.token.Token.{Token}
use Rattle.ur_lexer.specs.declared.fault.LexFault.{LexFault}
use Rattle.ur_lexer.specs.declared.pieces.Found.{Found}
use Rattle.ur_lexer.specs.declared.lexer.Ahead.{Ahead}
use Rattle.ur_lexer.specs.declared.lexer.Ahead.TheVariants.{End, Blank, Word}
use Rattle.ur_lexer.specs.Bytes.{Bytes}
use Rattle.ur_lexer.specs.Where.{Where}
use Rattle.ur_lexer.specs.Modes.{start, turned}
use Rattle.ur_lexer.specs.Ahead.{ahead_at}
use Rattle.ur_lexer.specs.Lexing.{Piece, blank, word, Ending, at_end, at_fault, IsCut, tokens_of, Lexes}
use Rattle.ur_lexer.proofs.Meaning.Told.{end_ahead, blank_ahead, word_ahead_is, fault_ahead}

abbrev Look : Type 0
Look = Result Ahead LexFault

-- what the first piece, or the ending, says of the front
abbrev first : List Piece → Ending → Look
first [] at_end = Ok End
first [] (at_fault fault) = Err fault
first (blank n ∷ pieces) ending = Ok (Blank n)
first (word token ∷ pieces) ending = Ok (Word token)

first_is : (here : Where) (at : ℕ) (bs : Bytes) (pieces : List Piece) (ending : Ending) → IsCut here at bs pieces ending → ahead_at here bs at ≡ first pieces ending
first_is here at bs [] at_end cut = end_ahead here bs at cut
first_is here at bs [] (at_fault fault) cut = fault_ahead here bs at fault cut
first_is here at bs (blank n ∷ pieces) ending cut = blank_ahead here bs at n cut.0
first_is here at bs (word token ∷ pieces) ending cut = word_ahead_is here bs at token cut.0

one_cut : (here : Where) (at : ℕ) (bs : Bytes) (pieces others : List Piece) (ending other : Ending) → IsCut here at bs pieces ending → IsCut here at bs others other → (pieces ≡ others) × (ending ≡ other)
one_cut here at bs [] [] at_end at_end p q = (refl, refl)
one_cut here at bs [] [] at_end (at_fault g) p q = let no : ◌≡◌ {A = Look} (Ok End) (Err g) = sym (first_is here at bs [] at_end p) ∙ first_is here at bs [] (at_fault g) q in cc no
one_cut here at bs [] [] (at_fault f) at_end p q = let no : ◌≡◌ {A = Look} (Err f) (Ok End) = sym (first_is here at bs [] (at_fault f) p) ∙ first_is here at bs [] at_end q in cc no
one_cut here at bs [] [] (at_fault f) (at_fault g) p q = let same : ◌≡◌ {A = Look} (Err f) (Err g) = sym (first_is here at bs [] (at_fault f) p) ∙ first_is here at bs [] (at_fault g) q in (refl, cc same)
one_cut here at bs [] (blank n ∷ others) at_end other p q = let no : ◌≡◌ {A = Look} (Ok End) (Ok (Blank n)) = sym (first_is here at bs [] at_end p) ∙ blank_ahead here bs at n q.0 in cc no
one_cut here at bs [] (blank n ∷ others) (at_fault f) other p q = let no : ◌≡◌ {A = Look} (Err f) (Ok (Blank n)) = sym (first_is here at bs [] (at_fault f) p) ∙ blank_ahead here bs at n q.0 in cc no
one_cut here at bs [] (word t ∷ others) at_end other p q = let no : ◌≡◌ {A = Look} (Ok End) (Ok (Word t)) = sym (first_is here at bs [] at_end p) ∙ word_ahead_is here bs at t q.0 in cc no
one_cut here at bs [] (word t ∷ others) (at_fault f) other p q = let no : ◌≡◌ {A = Look} (Err f) (Ok (Word t)) = sym (first_is here at bs [] (at_fault f) p) ∙ word_ahead_is here bs at t q.0 in cc no
one_cut here at bs (blank n ∷ pieces) [] ending at_end p q = let no : ◌≡◌ {A = Look} (Ok (Blank n)) (Ok End) = sym (blank_ahead here bs at n p.0) ∙ first_is here at bs [] at_end q in cc no
one_cut here at bs (blank n ∷ pieces) [] ending (at_fault g) p q = let no : ◌≡◌ {A = Look} (Ok (Blank n)) (Err g) = sym (blank_ahead here bs at n p.0) ∙ first_is here at bs [] (at_fault g) q in cc no
one_cut here at bs (word t ∷ pieces) [] ending at_end p q = let no : ◌≡◌ {A = Look} (Ok (Word t)) (Ok End) = sym (word_ahead_is here bs at t p.0) ∙ first_is here at bs [] at_end q in cc no
one_cut here at bs (word t ∷ pieces) [] ending (at_fault g) p q = let no : ◌≡◌ {A = Look} (Ok (Word t)) (Err g) = sym (word_ahead_is here bs at t p.0) ∙ first_is here at bs [] (at_fault g) q in cc no
one_cut here at bs (blank n ∷ pieces) (word t ∷ others) ending other p q = let no : ◌≡◌ {A = Look} (Ok (Blank n)) (Ok (Word t)) = sym (blank_ahead here bs at n p.0) ∙ word_ahead_is here bs at t q.0 in cc no
one_cut here at bs (word t ∷ pieces) (blank n ∷ others) ending other p q = let no : ◌≡◌ {A = Look} (Ok (Word t)) (Ok (Blank n)) = sym (word_ahead_is here bs at t p.0) ∙ blank_ahead here bs at n q.0 in cc no
one_cut here at bs (blank n ∷ pieces) (blank m ∷ others) ending other p q =
    let both : ◌≡◌ {A = Look} (Ok (Blank n)) (Ok (Blank m)) = sym (blank_ahead here bs at n p.0) ∙ blank_ahead here bs at m q.0 in
    let same : n ≡ m = cc both in
    let rest = one_cut here (at + n) (drop n bs) pieces others ending other p.1 (subst (λ (k : ℕ). IsCut here (at + k) (drop k bs) others other) (sym same) q.1) in
    (cc (rest.0, same), rest.1)
one_cut here at bs (word t ∷ pieces) (word u ∷ others) ending other p q =
    let both : ◌≡◌ {A = Look} (Ok (Word t)) (Ok (Word u)) = sym (word_ahead_is here bs at t p.0) ∙ word_ahead_is here bs at u q.0 in
    let same : t ≡ u = cc both in
    let rest = one_cut (turned t.turn here) (at + t.len) (drop t.len bs) pieces others ending other p.1 (subst (λ (x : Found). IsCut (turned x.turn here) (at + x.len) (drop x.len bs) others other) (sym same) q.1) in
    (cc (rest.0, same), rest.1)

pub one_reading : (text : Bytes) (tokens others : List Token) (ending other : Ending) → Lexes text tokens ending → Lexes text others other → (tokens ≡ others) × (ending ≡ other)
one_reading text tokens others ending other p q =
    let same = one_cut start 0 text p.pieces q.pieces ending other p.cut q.cut in
    (sym p.tokens_are ∙ ap (tokens_of 0) same.0 ∙ q.tokens_are, same.1)
