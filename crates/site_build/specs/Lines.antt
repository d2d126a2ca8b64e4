-- The lines that tell why a project isn't built.
use Rattle.std.specs.Prelude.{ℕ, List, ◌++◌, codes, decimal, string_bytes, Option, Some, None}
use Rattle.project_sources.specs.declared.fault.SourceFault.{SourceFault}
use Rattle.project_sources.specs.declared.fault.SourceFault.TheVariants as source
use Rattle.project_sources.specs.Lines.{line_of as line_of_source}
use Rattle.site_build.specs.declared.fault.BuildFault.{BuildFault}
use Rattle.site_build.specs.declared.fault.BuildFault.TheVariants.{Source, NotBuilt, Refused, ReadFault, Memory}

-- why sources aren't read, as why the project isn't built
abbrev pub of_source : SourceFault → BuildFault
of_source source.ReadFault = ReadFault
of_source source.Memory = Memory
of_source fault = Source fault

-- the line of a program that is refused at a byte of a file
abbrev pub refused_line : List ℕ → ℕ → List ℕ → List ℕ
refused_line file at told = file ++ codes ":" ++ decimal at ++ codes ": " ++ told ++ codes "\n"

-- the line of a refusal; a failure of reading and want of memory have none
abbrev pub line_of : BuildFault → Option (List ℕ)
line_of (Source fault) = line_of_source fault
line_of (NotBuilt file at) = Some (refused_line file at (codes "NotBuilt"))
line_of (Refused file at told) = Some (refused_line file at (string_bytes told))
line_of ReadFault = None
line_of Memory = None
