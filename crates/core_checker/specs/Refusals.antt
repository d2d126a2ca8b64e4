-- What a refusal gives back.
use Rattle.std.specs.Prelude.{◌≡◌, ⊤}
use Rattle.core_terms.specs.declared.program.Program.{Program}
use Rattle.core_checker.specs.declared.programs.CheckFault.{CheckFault}
use Rattle.core_checker.specs.declared.programs.CheckFault.TheVariants.{Refused, Memory}

-- A refusal gives back the program that was to be checked; want of memory gives back nothing.
abbrev pub GivesBack : Program → CheckFault → Type 0
GivesBack p (Refused r) = r.value.program ≡ p
GivesBack p Memory = ⊤
