-- Why a module alone has no page, with the line that says so.
use Rattle.std.specs.Prelude.{◌≡◌, ℕ, ◌⊎◌, List, Some}
use Rattle.core_terms.specs.Trees.{Pg}
use Rattle.core_typing.specs.Accepts.{Accepts}
use Rattle.site_pages.specs.Unshown.{IsUnshown}
use Rattle.site_build.specs.Causes.{IsCauseOfText}
use Rattle.site_build.specs.Lines.{line_of}
use Rattle.site_build.specs.Sources.{IsProgramOfText}
use Rattle.site_build.specs.declared.fault.BuildFault.{BuildFault}

-- the module isn't built, and this line tells why
abbrev pub IsUnbuiltText : List ℕ → List ℕ → Type 0
IsUnbuiltText bytes line = (fault : BuildFault) × IsCauseOfText bytes fault × (line_of fault ≡ Some line)

-- an accepted program is what the module says, and shows no page, as this line tells
abbrev pub IsUnshownText : List ℕ → List ℕ → Type 0
IsUnshownText bytes line = (p : Pg) × IsProgramOfText bytes p × Accepts p × IsUnshown p line

-- Why a module alone has no page.
abbrev pub HasNoPage : List ℕ → List ℕ → Type 0
HasNoPage bytes line = IsUnbuiltText bytes line ⊎ IsUnshownText bytes line
