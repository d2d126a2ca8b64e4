-- What the steps of reading tell of a fault.
use Rattle.std.specs.Prelude.{◌≡◌, ℕ, ◌<◌, List, length, Option, Some}
use Rattle.project_files.specs.Lines.{Line}
use Rattle.project_files.specs.Projects.{IsRefusedAt}
use Rattle.project_sources.specs.declared.fault.SourceFault.{SourceFault}
use Rattle.project_sources.specs.declared.fault.SourceFault.TheVariants.{BadProject, UnknownForeign, FileTooLong}
use Rattle.project_sources.specs.Texts.{longest}
use Rattle.project_sources.specs.Projects.{IsFirstUnknown}

-- the file is there, and too long
abbrev pub IsTooLong : Option (List ℕ) → List ℕ → SourceFault → Type 0
IsTooLong content name fault =
    (bytes : List ℕ) × (content ≡ Some bytes) × (longest < length bytes) × (fault ≡ FileTooLong name)

-- the folder is refused as a whole
abbrev pub IsBadFolder : List ℕ → SourceFault → Type 0
IsBadFolder dir fault = fault ≡ BadProject dir 0

-- a line of the project file is refused
abbrev pub IsBadLine : List ℕ → List ℕ → SourceFault → Type 0
IsBadLine name bytes fault = (line : ℕ) × IsRefusedAt bytes line × (fault ≡ BadProject name line)

-- a foreign module isn't there
abbrev pub IsUnknown : List Line → List Line → SourceFault → Type 0
IsUnknown objects names fault = (name : Line) × IsFirstUnknown objects names name × (fault ≡ UnknownForeign name)
