-- That a program tells its one declaration, a thing without a term.
use Rattle.std.proofs.Common.{arith, inl, inr}
use Rattle.con_terms.specs.Trees.{Cn}
use Rattle.con_terms.specs.declared.place.Place.{Place}
use Rattle.core_terms.specs.Trees.{Ex}
use Rattle.core_typing.specs.Scopes.{Sc}
use Rattle.core_typing.specs.Faults.{at, Earlier}
use Rattle.core_typing.specs.Tells.{here, past_thing, no_thing_rule, of_declaration, ProgramSub, in_declaration, tells_outside}
use Rattle.core_typing.specs.ExampleTerms.{byte}
use Rattle.core_typing.specs.ExampleProgram.{one_sequence, SequenceIsTold}

first_place : (p : Place) → Earlier p (byte 0) → ⊥
first_place p (inl h) = absurd (omega (arith, h))
first_place p (inr h) = absurd (omega (arith, h.1))

no_term_in : (t : Cn) {G : Sc} {e : Ex} → ProgramSub (one_sequence t) G e → ⊥
no_term_in t (in_declaration here s) = elim s [ ]
no_term_in t (in_declaration (past_thing a) s) = elim a [ ]

pub sequence_told : SequenceIsTold
sequence_told t =
    tells_outside (of_declaration here no_thing_rule) (λ g o h. first_place (at g) h) (λ G e g s f. absurd (no_term_in t s))
