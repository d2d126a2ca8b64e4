-- What was found stays found, from step to step.
use Rattle.std.proofs.Common.{◌≡◌, ◌==◌, ◌-◌, ℕ, Bool, true, false, if◌then◌else◌, None, Some, Option, refl, sym, subst, ◌∙◌, true≢false}
use Rattle.con_terms.specs.Trees.{Cn}
use Rattle.unknowns.specs.Unknowns.{Fd, nothing, slot, is_none, is_open, put, KeepsAnswer, Keeps}

pub answer_stays : (o : Option Cn) → KeepsAnswer o o
answer_stays None = tt
answer_stays (Some a) = refl

pub keeps_refl : (f : Fd) → Keeps f f
keeps_refl nothing = tt
keeps_refl (slot k o f) = (refl, answer_stays o, keeps_refl f)

pub answers_stay : (o p r : Option Cn) → KeepsAnswer o p → KeepsAnswer p r → KeepsAnswer o r
answers_stay None p r x y = tt
answers_stay (Some a) p r x y = subst (λ z. KeepsAnswer z r) x y

pub keeps_trans : (f g h : Fd) → Keeps f g → Keeps g h → Keeps f h
keeps_trans nothing nothing h x y = y
keeps_trans nothing (slot l p g) h x y = absurd x
keeps_trans (slot k o f) nothing h x y = absurd x
keeps_trans (slot k o f) (slot l p g) nothing x y = absurd y
keeps_trans (slot k o f) (slot l p g) (slot m r h) x y = (x.0 ∙ y.0, answers_stay o p r x.1 y.1, keeps_trans f g h x.2 y.2)

pub none_before : (o p : Option Cn) → is_none o ≡ true → KeepsAnswer o p
none_before None p e = tt
none_before (Some a) p e = absurd (true≢false (sym e))

pub keeps_put : (f : Fd) (i : ℕ) (a : Cn) → is_open f i ≡ true → Keeps f (put f i a)
keeps_put nothing i a e = tt
keeps_put (slot k o f) i a e = by_test (i == 0) e (keeps_put f (i - 1) a)
  where
    by_test : (b : Bool) → (if b then is_none o else is_open f (i - 1)) ≡ true
        → (is_open f (i - 1) ≡ true → Keeps f (put f (i - 1) a))
        → Keeps (slot k o f) (if b then slot k (Some a) f else slot k o (put f (i - 1) a))
    by_test true e rest = (refl, none_before o (Some a) e, keeps_refl f)
    by_test false e rest = (refl, answer_stays o, rest e)
