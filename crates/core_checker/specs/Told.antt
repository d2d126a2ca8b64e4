-- What a program tells.
use Rattle.std.specs.Prelude.{Option, Some, None, ⊤}
use Rattle.core_terms.specs.Trees.{Pg}
use Rattle.core_typing.specs.Faults as told
use Rattle.core_typing.specs.Tells.{ProgramFails, ProgramTells}
use Rattle.type_faults.specs.View.{fault_tree}
use Rattle.core_checker.specs.declared.programs.CheckFault.{CheckFault}
use Rattle.core_checker.specs.declared.programs.CheckFault.TheVariants.{Refused, Memory}

-- one of its first faults, or none where no premise fails
abbrev pub IsTold : Pg → Option told.Fault → Type 0
IsTold p None = (f : told.Fault) → ProgramFails p f → ⊥
IsTold p (Some f) = ProgramTells p f

-- the fault of a refusal is told; want of memory tells nothing
abbrev pub ToldOf : Pg → CheckFault → Type 0
ToldOf p (Refused r) = ProgramTells p (fault_tree r.value.fault)
ToldOf p Memory = ⊤
