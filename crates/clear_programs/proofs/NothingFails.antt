-- Of a program in which a premise fails a fault is told: one of the first.
use Rattle.std.proofs.Common.{ℕ, zero, suc, ◌<◌, inl, inr, arith}
use Rattle.core_terms.specs.Trees.{Ex, Pg}
use Rattle.core_typing.specs.Scopes.{Sc}
use Rattle.core_typing.specs.Faults.{Fault, at, Earlier}
use Rattle.core_typing.specs.Tells.{Fails, ProgramSub, ProgramFails, outside_terms, in_term, tells_outside}
use Rattle.core_typing.specs.Tells.{tells_in_term, Clear}
use Rattle.told_faults.proofs.Ordering.{none_before, not_itself}
use Rattle.clear_programs.specs.Laws.{NothingFailsUntold}
use Rattle.clear_programs.proofs.ToldTerms.{IsFirst, first_told, stands_later}

-- a term of a program has a fault that stands no later than f, and none stands before f
in_a_term : (p : Pg) (G : Sc) (e : Ex) (f g : Fault) → Clear p → ProgramSub p G e → IsFirst (ProgramFails p) f
    → (Earlier (at f) (at g) → ⊥) → Fails G e g → ⊥
in_a_term p G e f g clear s least l x =
    first_told e G g x (λ i y. none_before (at i) (at g) (at f) (least i (in_term s y)) l)
    (λ t y k. clear t (tells_in_term s y
    (λ i z. none_before (at i) (at t) (at f) (least i z) (none_before (at f) (at t) (at g) l k))))

-- where no fault is told, none is a first one
no_first : (p : Pg) (f : Fault) → Clear p → ProgramFails p f → IsFirst (ProgramFails p) f → ⊥
no_first p f clear (in_term {G = G} {e = e} s x) least = in_a_term p G e f f clear s least (not_itself (at f)) x
no_first p f clear (outside_terms x) least =
    clear f (tells_outside x (λ g y. least g (outside_terms y))
    (λ G e g s y. stands_later f g (λ l. in_a_term p G e f g clear s least l y)))

-- a fault is a first one where none stands in the files before it, nor before it in its own
first_there : (p : Pg) (file byte : ℕ) (f : Fault) → ((g : Fault) → ProgramFails p g → (at g).file < file → ⊥)
    → ((g : Fault) → ProgramFails p g → (at g).file < suc file → (at g).at < byte → ⊥) → (at f).file < suc file
    → (at f).at < suc byte → IsFirst (ProgramFails p) f
first_there p file byte f files bytes l m g x (inl k) = files g x (omega (arith, k, l))
first_there p file byte f files bytes l m g x (inr (e, k)) = bytes g x (omega (arith, e, l)) (omega (arith, k, m))

-- so none stands before a byte of a file, where none stands in the files before it
before_byte : (p : Pg) (file byte : ℕ) (f : Fault) → Clear p
    → ((g : Fault) → ProgramFails p g → (at g).file < file → ⊥) → ProgramFails p f → (at f).file < suc file
    → (at f).at < byte → ⊥
before_byte p file zero f clear none x l m = omega (arith, m)
before_byte p file (suc byte) f clear none x l m =
    no_first p f clear x (first_there p file byte f none (λ g y k i. before_byte p file byte g clear none y k i) l m)

-- nor before a file
before_file : (p : Pg) (file : ℕ) (f : Fault) → Clear p → ProgramFails p f → (at f).file < file → ⊥
before_file p zero f clear x l = omega (arith, l)
before_file p (suc file) f clear x l =
    before_byte p file (suc (at f).at) f clear (λ g y k. before_file p file g clear y k) x l (omega arith)

pub nothing_fails : NothingFailsUntold
nothing_fails p clear f x = before_file p (suc (at f).file) f clear x (omega arith)
