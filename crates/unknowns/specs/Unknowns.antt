-- Unknowns of a call, and what was found for them.
-- The Ur/Web Manual, "Type Inference".
use Rattle.std.specs.Prelude.{◌≡◌, ℕ, zero, suc, ◌+◌, ◌-◌, nat_lt, Bool, true, false, ◌&&◌, ◌||◌, not, if◌then◌else◌, ◌==◌, Option, Some, None}
use Rattle.con_terms.specs.Trees.{Kd, Cn, var, basic, arrow, poly, guarded, record_of, app, lambda, unit_con, name, row, cat, map_of, tuple, proj, Cns, no_cons, con, Prs, no_pairs, pair}
use Rattle.con_terms.specs.Equal.{Equal}
use Rattle.con_terms.specs.Substitution.{replaced, shift}

-- unknowns, the innermost first, each with its kind and what was found for it, seen from outside of the unknowns
pub data Fd : Type 0 where
  nothing : Fd
  slot : Kd → Option Cn → Fd → Fd

-- how many there are
abbrev pub count_of : Fd → ℕ
count_of nothing = 0
count_of (slot k o f) = count_of f + 1

-- what was found for an unknown
abbrev pub answer_of : Fd → ℕ → Option Cn
answer_of nothing i = None
answer_of (slot k o f) i = if i == 0 then o else answer_of f (i - 1)

abbrev pub kind_of : Fd → ℕ → Option Kd
kind_of nothing i = None
kind_of (slot k o f) i = if i == 0 then Some k else kind_of f (i - 1)

abbrev pub is_none : Option Cn → Bool
is_none None = true
is_none (Some a) = false

-- whether a number is that of an unknown for which nothing was found
abbrev pub is_open : Fd → ℕ → Bool
is_open nothing i = false
is_open (slot k o f) i = if i == 0 then is_none o else is_open f (i - 1)

-- a constructor is found for an unknown
abbrev pub put : Fd → ℕ → Cn → Fd
put nothing i a = nothing
put (slot k o f) i a = if i == 0 then slot k (Some a) f else slot k o (put f (i - 1) a)

-- no unknown is left in it for which nothing was found
abbrev mutual
  pub known : Fd → Cn → ℕ → Bool
  known f (var i) d = nat_lt i d || not (is_open f (i - d))
  known f (basic s) d = true
  known f (arrow a b) d = known f a d && known f b d
  known f (poly x k b) d = known f b (d + 1)
  known f (guarded a b c) d = known f a d && (known f b d && known f c d)
  known f (record_of a) d = known f a d
  known f (app a b) d = known f a d && known f b d
  known f (lambda k b) d = known f b (d + 1)
  known f unit_con d = true
  known f (name s) d = true
  known f (row k ps) d = known_pairs f ps d
  known f (cat a b) d = known f a d && known f b d
  known f (map_of k l) d = true
  known f (tuple cs) d = known_all f cs d
  known f (proj a n) d = known f a d

  pub known_all : Fd → Cns → ℕ → Bool
  known_all f no_cons d = true
  known_all f (con c cs) d = known f c d && known_all f cs d

  pub known_pairs : Fd → Prs → ℕ → Bool
  known_pairs f no_pairs d = true
  known_pairs f (pair n v ps) d = (known f n d && known f v d) && known_pairs f ps d

-- an answer seen from under d binders
abbrev pub told_answer : Option Cn → ℕ → Cn
told_answer None d = unit_con
told_answer (Some a) d = shift d a 0

-- what stands for a number i that no binder inside binds, seen from outside of the n unknowns and from under d binders;
-- an unknown for which nothing was found stands as ()
abbrev pub told_number : Fd → ℕ → ℕ → Cn
told_number nothing d i = var (i + d)
told_number (slot k o f) d i = if i == 0 then told_answer o d else told_number f d (i - 1)

abbrev pub tell : Fd → ℕ → ℕ → Cn
tell f d i = if nat_lt i d then var i else told_number f d (i - d)

-- a constructor with what was found for its unknowns, seen from outside of them
abbrev pub told : Fd → Cn → Cn
told f c = replaced (tell f) c 0

-- what stands for a number, with the unknowns as they are where nothing was found for them
abbrev pub filled_answer : Option Cn → ℕ → ℕ → Cn
filled_answer None by i = var i
filled_answer (Some a) by i = shift by a 0

abbrev pub fill : Fd → ℕ → ℕ → Cn
fill f d i = if nat_lt i d then var i else filled_answer (answer_of f (i - d)) (count_of f + d) i

-- a constructor with what was found put in, the unknowns still being its innermost binders
abbrev pub filled : Fd → Cn → Cn
filled f c = replaced (fill f) c 0

-- what was found stays found, and there are as many unknowns of the same kinds
abbrev pub KeepsAnswer : Option Cn → Option Cn → Type 0
KeepsAnswer None o = Unit {0}
KeepsAnswer (Some a) o = o ≡ Some a

abbrev pub Keeps : Fd → Fd → Type 0
Keeps nothing nothing = Unit {0}
Keeps nothing (slot k o f) = ⊥
Keeps (slot k o f) nothing = ⊥
Keeps (slot k o f) (slot l p g) = (k ≡ l) × KeepsAnswer o p × Keeps f g

-- no unknown is left in a pattern, and with what was found for them it is equal to what was matched
abbrev pub Fits : Fd → Cn → Cn → Type 0
Fits f p a = (known f p 0 ≡ true) × Equal (told f p) a
