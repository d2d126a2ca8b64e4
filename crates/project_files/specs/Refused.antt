-- Why a project file isn't read.
use Rattle.std.specs.Prelude.{ℕ, List}
use Rattle.project_files.specs.Projects.{IsRefusedAt}
use Rattle.project_files.specs.declared.projects.ProjectFault.{ProjectFault}
use Rattle.project_files.specs.declared.projects.ProjectFault.TheVariants.{BadLine, Memory}

-- want of memory says nothing of the file
abbrev pub IsRefused : List ℕ → ProjectFault → Type 0
IsRefused bytes (BadLine line) = IsRefusedAt bytes line
IsRefused bytes Memory = Unit {0}
