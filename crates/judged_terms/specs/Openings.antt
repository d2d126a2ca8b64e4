-- The scopes that terms open, under patterns and under guards, and what is judged there.
use Rattle.std.specs.Prelude.{◌≡◌, Option, Some, None, Result, Ok, Err}
use Rattle.con_terms.specs.Trees.{Cn}
use Rattle.con_terms.specs.declared.place.Place.{Place}
use Rattle.kind_rules.specs.Flaws.{Flw}
use Rattle.core_terms.specs.Trees.{Pt}
use Rattle.core_typing.specs.Scopes.{Sc, under_guard}
use Rattle.core_typing.specs.Faults.{Fault}
use Rattle.core_typing.specs.Judged.{flaw_at, guard_forms}
use Rattle.told_faults.specs.Computed.{Jd, faulty}
use Rattle.judgements.specs.Bindings.{Bd, bind_these, bad_pattern, having}
use Rattle.pattern_rules.specs.Binds.{binding}
use Rattle.pattern_rules.specs.Matching.{Br, bad_branch, judged_branch}

-- a scope, or what is told of that which opens it
pub data Un : Type 0 where
  opens : Sc → Un
  no_scope : Fault → Un

-- under a pattern of a type
abbrev pub bound_scope : Sc → Bd → Un
bound_scope G (bind_these l) = opens (having l G)
bound_scope G (bad_pattern f) = no_scope f

abbrev pub pattern_scope : Sc → Pt → Cn → Un
pattern_scope G q t = bound_scope G (binding G G.locals q t)

-- where two rows are apart
abbrev pub sides_scope : Sc → Place → Result (Cn × Cn) Flw → Un
sides_scope G p (Err w) = no_scope (flaw_at p G.called w)
sides_scope G p (Ok mn) = opens (under_guard mn.0 mn.1 G)

abbrev pub guard_scope : Sc → Place → Cn → Cn → Un
guard_scope G p c d = sides_scope G p (guard_forms G.kinds c d)

-- a branch whose body is judged in the scope
abbrev pub BranchIn : Un → (Sc → Jd → Type 0) → Br → Type 0
BranchIn (no_scope f) J b = b ≡ bad_branch f
BranchIn (opens H) J (bad_branch f) = ⊥
BranchIn (opens H) J (judged_branch j) = J H j

-- a whole whose body is judged in the scope
abbrev pub WholeIn : Un → (Sc → Jd → Type 0) → Jd → Type 0
WholeIn (no_scope f) J j = j ≡ faulty f
WholeIn (opens H) J j = J H j

-- a whole that is judged unless a fault is told
abbrev pub UnlessTold : Option Fault → Type 0 → Jd → Type 0
UnlessTold (Some f) J j = j ≡ faulty f
UnlessTold None J j = J
