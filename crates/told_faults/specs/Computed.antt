-- Faults as they are computed: the earlier of two, the flaw of a kinding, what a comparison tells, what a type's normal
-- form has at its head. A judgement doesn't stop at the first fault: it has a type, where one is found, and a told
-- fault, where there is one.
use Rattle.std.specs.Prelude.{Bool, true, false, Option, Some, None, Result, Ok, Err, nat_lt, if◌then◌else◌}
use Rattle.con_terms.specs.Trees.{Kd, Cn, arrow, poly, guarded, record_of}
use Rattle.con_terms.specs.declared.place.Place.{Place}
use Rattle.row_normal.specs.SameTree.{cn_eq}
use Rattle.kind_rules.specs.Flaws.{Flw}
use Rattle.kind_rules.specs.Compared.{comparison_units, normal_forms}
use Rattle.core_typing.specs.Scopes.{Sc}
use Rattle.core_typing.specs.Judged.{flaw_at}
use Rattle.core_typing.specs.Faults.{Fault, mismatch, too_large, at}

-- the type that is found, if there is one, and the fault that is told, if there is one
pub record Jd : Type 0 where
  pub type : Option Cn
  pub told : Option Fault

abbrev pub neither : Jd
neither = record { type = None; told = None }

abbrev pub typed : Cn → Jd
typed t = record { type = Some t; told = None }

abbrev pub faulty : Fault → Jd
faulty f = record { type = None; told = Some f }

-- by file, and then by byte
abbrev pub sooner : Place → Place → Bool
sooner p q = if nat_lt p.file q.file then true else (if nat_lt q.file p.file then false else nat_lt p.at q.at)

-- the earlier of two faults; of two at one place the first
abbrev pub first : Option Fault → Option Fault → Option Fault
first None l = l
first (Some f) None = Some f
first (Some f) (Some g) = if sooner (at g) (at f) then Some g else Some f

-- the fault of a flaw
abbrev pub flawed : Sc → Place → Result Kd Flw → Option Fault
flawed G p (Ok k) = None
flawed G p (Err w) = Some (flaw_at p G.called w)

-- what two types' normal forms tell
abbrev pub differing : Sc → Place → Result (Cn × Cn) Flw → Option Fault
differing G p (Err w) = Some (too_large p)
differing G p (Ok mn) = if cn_eq mn.0 mn.1 then None else Some (mismatch p G.called mn.0 mn.1)

abbrev pub wants : Sc → Place → Cn → Cn → Option Fault
wants G p t u = differing G p (normal_forms comparison_units t u)

-- what is told of a type, where there is one
abbrev pub on_type : Option Cn → (Cn → Option Fault) → Option Fault
on_type None f = None
on_type (Some t) f = f t

-- heads of normal forms
abbrev pub function_parts : Cn → Option (Cn × Cn)
function_parts (arrow a b) = Some (a, b)
function_parts _ = None

abbrev pub poly_parts : Cn → Option (Kd × Cn)
poly_parts (poly i k b) = Some (k, b)
poly_parts _ = None

abbrev pub guarded_parts : Cn → Option (Cn × Cn × Cn)
guarded_parts (guarded a b c) = Some (a, b, c)
guarded_parts _ = None

abbrev pub record_row : Cn → Option Cn
record_row (record_of r) = Some r
record_row _ = None
