-- Readings of a text that grow token by token.
use Rattle.std.proofs.Common.{◌≡◌, ◌+◌, ◌++◌, ℕ, List, [], ◌∷◌, drop, refl, sym, ◌∙◌, subst, append_assoc, append-nil, inl, inr}
use Rattle.std.specs.Prelude.{◌⊎◌}
use Rattle.surface_tree.specs.declared.token.Token.{Token}
use Rattle.ur_lexer.specs.declared.fault.LexFault.{LexFault}
use Rattle.ur_lexer.specs.declared.fault.LexFault.TheVariants.{BadChar, OpenText, OpenComment, IntTooLarge, Memory}
use Rattle.ur_lexer.specs.declared.pieces.Found.{Found}
use Rattle.ur_lexer.specs.Bytes.{Bytes}
use Rattle.ur_lexer.specs.Where.{Where}
use Rattle.ur_lexer.specs.Modes.{start, turned}
use Rattle.ur_lexer.specs.Ahead.{ahead_at}
use Rattle.ur_lexer.specs.Results.{Fails}
use Rattle.ur_lexer.specs.Lexing.{Piece, blank, word, Ending, at_end, at_fault, IsCut, IsBlank, IsToken, IsFault, tokens_of, Lexes, IsTold}
use Rattle.ur_lexer.proofs.Meaning.Found.{ahead_fault}
use Rattle.ur_lexer.proofs.Readings.OneReading.{one_reading}

-- what is read of the rest goes on with the tokens that were read of the text
abbrev pub Grows : Bytes → List Token → Where → ℕ → Bytes → Type 0
Grows text tokens here at rest = (pieces : List Piece) (ending : Ending) → IsCut here at rest pieces ending → (all : List Piece) × IsCut start 0 text all ending × (tokens_of 0 all ≡ tokens ++ tokens_of at pieces)

from_start : (text : Bytes) → Grows text [] start 0 text
from_start text pieces ending cut = (pieces, cut, refl)

pub grows_start : (text : Bytes) (tokens : List Token) (here : Where) (at : ℕ) → [] ≡ tokens → start ≡ here → 0 ≡ at → Grows text tokens here at text
grows_start text tokens here at e f g =
    subst (λ (x : List Token). Grows text x here at text) e (subst (λ (x : Where). Grows text [] x at text) f (subst (λ (x : ℕ). Grows text [] start x text) g (from_start text)))

past_blank : (text : Bytes) (tokens : List Token) (here : Where) (at : ℕ) (rest : Bytes) (n : ℕ) → Grows text tokens here at rest → IsBlank here.mode rest n → Grows text tokens here (at + n) (drop n rest)
past_blank text tokens here at rest n g is pieces ending cut = g (blank n ∷ pieces) ending (is, cut)

pub grows_blank : (text : Bytes) (tokens : List Token) (here : Where) (at : ℕ) (rest : Bytes) (n j : ℕ) (left : Bytes) → Grows text tokens here at rest → IsBlank here.mode rest n → at + n ≡ j → drop n rest ≡ left → Grows text tokens here j left
grows_blank text tokens here at rest n j left g is e f =
    subst (λ (x : Bytes). Grows text tokens here j x) f (subst (λ (x : ℕ). Grows text tokens here x (drop n rest)) e (past_blank text tokens here at rest n g is))

abbrev pub placed : ℕ → Found → Token
placed at token = record { kind = token.kind; at = at; content = token.content }

past_word : (text : Bytes) (tokens : List Token) (here : Where) (at : ℕ) (rest : Bytes) (token : Found) → Grows text tokens here at rest → IsToken here rest token
    → Grows text (tokens ++ placed at token ∷ []) (turned token.turn here) (at + token.len) (drop token.len rest)
past_word text tokens here at rest token g is pieces ending cut =
    let more = g (word token ∷ pieces) ending (is, cut) in
    (more.0, more.1, more.2 ∙ sym (append_assoc tokens (placed at token ∷ []) (tokens_of (at + token.len) pieces)))

pub grows_word : (text : Bytes) (tokens : List Token) (here : Where) (at : ℕ) (rest : Bytes) (token : Found) (now : List Token) (there : Where) (j : ℕ) (left : Bytes)
    → Grows text tokens here at rest → IsToken here rest token → tokens ++ placed at token ∷ [] ≡ now → turned token.turn here ≡ there → at + token.len ≡ j → drop token.len rest ≡ left → Grows text now there j left
grows_word text tokens here at rest token now there j left g is d e f h =
    subst (λ (x : Bytes). Grows text now there j x) h (subst (λ (x : ℕ). Grows text now there x (drop token.len rest)) f (subst (λ (x : Where). Grows text now x (at + token.len) (drop token.len rest)) e (subst (λ (x : List Token). Grows text x (turned token.turn here) (at + token.len) (drop token.len rest)) d (past_word text tokens here at rest token g is))))

pub lexes_end : (text : Bytes) (tokens : List Token) (here : Where) (at : ℕ) (rest : Bytes) → Grows text tokens here at rest → rest ≡ [] → Lexes text tokens at_end
lexes_end text tokens here at rest g e =
    let all = g [] at_end e in record { pieces = all.0; cut = all.1; tokens_are = all.2 ∙ append-nil tokens }

pub lexes_fault : (text : Bytes) (tokens : List Token) (here : Where) (at : ℕ) (rest : Bytes) (fault : LexFault) → Grows text tokens here at rest → IsFault here at rest fault → Lexes text tokens (at_fault fault)
lexes_fault text tokens here at rest fault g e =
    let all = g [] (at_fault fault) e in record { pieces = all.0; cut = all.1; tokens_are = all.2 ∙ append-nil tokens }

-- a fault that stands at the front of the rest is told rightly
pub told : (text : Bytes) (tokens : List Token) (here : Where) (at : ℕ) (rest : Bytes) (fault : LexFault) → Grows text tokens here at rest → Fails fault (ahead_at here rest at) → IsTold text fault
told text tokens here at rest (BadChar n) g e = (tokens, lexes_fault text tokens here at rest (BadChar n) g (ahead_fault here rest at (BadChar n) e))
told text tokens here at rest (OpenText n) g e = (tokens, lexes_fault text tokens here at rest (OpenText n) g (ahead_fault here rest at (OpenText n) e))
told text tokens here at rest (OpenComment n) g e = (tokens, lexes_fault text tokens here at rest (OpenComment n) g (ahead_fault here rest at (OpenComment n) e))
told text tokens here at rest (IntTooLarge n) g e = (tokens, lexes_fault text tokens here at rest (IntTooLarge n) g (ahead_fault here rest at (IntTooLarge n) e))
told text tokens here at rest Memory g e = tt

endings : (text : Bytes) (a b : List Token) (c d : Ending) → Lexes text a c → Lexes text b d → c ≡ d
endings text a b c d p q = (one_reading text a b c d p q).1

apart : (fault : LexFault) → at_end ≡ at_fault fault → ⊥
apart fault e = cc

-- a text has not both an end and a fault
pub not_both : (text : Bytes) (a b : List Token) (fault : LexFault) → Lexes text a at_end → Lexes text b (at_fault fault) → ⊥
not_both text a b fault p q = apart fault (endings text a b at_end (at_fault fault) p q)

pub only_memory : (text : Bytes) (fault : LexFault) (tokens : List Token) → IsTold text fault → Lexes text tokens at_end → fault ≡ Memory
only_memory text (BadChar n) tokens is l = absurd (not_both text tokens is.0 (BadChar n) l is.1)
only_memory text (OpenText n) tokens is l = absurd (not_both text tokens is.0 (OpenText n) l is.1)
only_memory text (OpenComment n) tokens is l = absurd (not_both text tokens is.0 (OpenComment n) l is.1)
only_memory text (IntTooLarge n) tokens is l = absurd (not_both text tokens is.0 (IntTooLarge n) l is.1)
only_memory text Memory tokens is l = refl

same_fault : (a b : LexFault) → at_fault a ≡ at_fault b → a ≡ b
same_fault a b e = cc

pub that_fault : (text : Bytes) (fault other : LexFault) (tokens : List Token) → IsTold text fault → Lexes text tokens (at_fault other) → (fault ≡ other) ⊎ (fault ≡ Memory)
that_fault text (BadChar n) other tokens is l = inl (same_fault _ _ (endings text is.0 tokens (at_fault (BadChar n)) (at_fault other) is.1 l))
that_fault text (OpenText n) other tokens is l = inl (same_fault _ _ (endings text is.0 tokens (at_fault (OpenText n)) (at_fault other) is.1 l))
that_fault text (OpenComment n) other tokens is l = inl (same_fault _ _ (endings text is.0 tokens (at_fault (OpenComment n)) (at_fault other) is.1 l))
that_fault text (IntTooLarge n) other tokens is l = inl (same_fault _ _ (endings text is.0 tokens (at_fault (IntTooLarge n)) (at_fault other) is.1 l))
that_fault text Memory other tokens is l = inr refl
