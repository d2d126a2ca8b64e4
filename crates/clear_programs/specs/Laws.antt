-- What it says of a program that no fault is told of it.
use Rattle.core_terms.specs.Trees.{Pg}
use Rattle.core_typing.specs.Accepts.{Formed, Accepts}
use Rattle.core_typing.specs.Faults.{Fault}
use Rattle.core_typing.specs.Tells.{ProgramFails, Clear}

-- No premise fails in a program of which no fault is told.
abbrev pub NothingFailsUntold : Type 0
NothingFailsUntold = (p : Pg) → Clear p → (f : Fault) → ProgramFails p f → ⊥

-- A formed program of which no fault is told is accepted.
abbrev pub ClearIsAccepted : Type 0
ClearIsAccepted = (p : Pg) → Formed p → Clear p → Accepts p
