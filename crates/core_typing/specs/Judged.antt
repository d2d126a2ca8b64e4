-- What kinding finds for a constructor that a term has written, and how its flaw is told. The guards of the scope
-- are normal forms, the newest first.
-- The Ur/Web Manual, "Kinding" and "Record Disjointness".
use Rattle.std.specs.Prelude.{◌≡◌, ℕ, List, Result, Ok, Err}
use Rattle.con_terms.specs.Trees.{Kd, Cn}
use Rattle.con_terms.specs.Kinded.{Scope}
use Rattle.con_terms.specs.declared.place.Place.{Place}
use Rattle.kind_rules.specs.Flaws.{Flw, unbound_variable, unbound_basic, kinds_differ, pieces_touch}
use Rattle.kind_rules.specs.Flaws as flaw
use Rattle.kind_rules.specs.Rules.{both, guard_sides}
use Rattle.kind_rules.specs.Kinding.{judged, judged_at}
use Rattle.core_typing.specs.Scopes.{Sc}
use Rattle.core_typing.specs.Faults.{Fault, unbound, a_con_variable, a_symbol, kind_mismatch, not_disjoint, too_large}

-- a flaw, as the fault of a place, where constructor variables are called so
abbrev pub flaw_at : Place → List ℕ → Flw → Fault
flaw_at p xs (unbound_variable i) = unbound p (a_con_variable i)
flaw_at p xs (unbound_basic s) = unbound p (a_symbol s)
flaw_at p xs (kinds_differ wanted found) = kind_mismatch p wanted found
flaw_at p xs (pieces_touch c d) = not_disjoint p xs c d
flaw_at p xs flaw.too_large = too_large p

-- a constructor is found to have a kind
pub data HasKind : Sc → Cn → Kd → Type 0 where
  -- c :: k
  has : {G : Sc} {c : Cn} {k : Kd}
      → judged_at G.kinds c k ≡ Ok k
      → HasKind G c k

-- or the first flaw that keeps it from having it is told at a place
pub data LacksKind : Sc → Place → Cn → Kd → Fault → Type 0 where
  -- c, where k is wanted and the first flaw is w
  lacks : {G : Sc} {p : Place} {c : Cn} {k : Kd} {w : Flw}
      → judged_at G.kinds c k ≡ Err w
      → LacksKind G p c k (flaw_at p G.called w)

-- the normal forms of a guard's two sides, which should be rows, or the first flaw: as kinding finds it for a
-- guarded type
abbrev pub guard_forms : Scope → Cn → Cn → Result (Cn × Cn) Flw
guard_forms G c d = guard_sides c d (both (judged G c) (judged G d))
