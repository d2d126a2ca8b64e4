-- What the steps of building tell of a fault.
use Rattle.std.specs.Prelude.{◌≡◌, ℕ, List, length, map, string_bytes}
use Rattle.con_terms.specs.declared.place.Place.{Place}
use Rattle.core_terms.specs.Lists.{foreigns_view, rules_view}
use Rattle.fault_lines.specs.Lines.{IsToldOfElaboration}
use Rattle.name_scopes.specs.declared.fault.ElabFault.{ElabFault}
use Rattle.plain_projects.specs.Said.{exported_said, names_said, rules_said, trees_said}
use Rattle.plain_tree.specs.View.{plain_view}
use Rattle.program_elaborator.specs.declared.program.Source.{Source as AnySource}
use Rattle.project_files.specs.Lines.{HasLines, Line}
use Rattle.project_files.specs.Projects.{Said}
use Rattle.project_sources.specs.Modules.{ModuleTrees}
use Rattle.project_sources.specs.Projects.{ProjectTrees, SaysProject}
use Rattle.project_sources.specs.declared.fault.SourceFault.TheVariants.{BadProject}
use Rattle.site_build.specs.Causes.{AreBuilt, IsBeyond, IsFirst, IsLineOf, IsUnbuiltAt}
use Rattle.site_build.specs.Refusals.{IsAt, IsRefused}
use Rattle.site_build.specs.declared.fault.BuildFault.{BuildFault}
use Rattle.site_build.specs.declared.fault.BuildFault.TheVariants.{Source, NotBuilt, Refused, ReadFault, Memory}
use Rattle.ur_outside.specs.Files.{Told}

-- it is that of the first form that isn't built yet, or want of memory
abbrev pub IsOfForms : List ModuleTrees → BuildFault → Type 0
IsOfForms ms (Source fault) = ⊥
IsOfForms ms (NotBuilt file at) = IsUnbuiltAt ms file at
IsOfForms ms (Refused file at told) = ⊥
IsOfForms ms ReadFault = ⊥
IsOfForms ms Memory = Unit {0}

-- it is told at a line of a project file
abbrev pub IsOfTables : BuildFault → Type 0
IsOfTables fault = (file : List ℕ) × (line : ℕ) × (fault ≡ Source (BadProject file line))

-- it is told at the line of the project file of a folder at which a module stands
abbrev pub IsAtModule : Told → List ℕ → Line → BuildFault → Type 0
IsAtModule files dir name fault = (said : Said) (says : SaysProject files dir said)
    → (line : ℕ) × IsLineOf says.says.lines name line × (fault ≡ Source (BadProject says.name line))

-- the line that a module has is that of the first with which modules declare too many tables
abbrev pub IsBeyondAt : List ModuleTrees → Line → Type 0
IsBeyondAt ms line = (m : ModuleTrees) × IsBeyond ms m × (m.line ≡ line)

-- of the lines of these bytes so many stand before the first that is this one, and behind it stand those of the rest
abbrev pub IsFirstIn : List ℕ → Line → ℕ → List ℕ → Type 0
IsFirstIn bytes line number rest = (lines : List Line) → HasLines bytes lines
    → (before : List Line) × (after : List Line) × IsFirst lines before line after × (number ≡ length before)
    × HasLines rest after

-- reading failed, or memory ran out
abbrev pub IsOfOutside : BuildFault → Type 0
IsOfOutside (Source fault) = ⊥
IsOfOutside (NotBuilt file at) = ⊥
IsOfOutside (Refused file at told) = ⊥
IsOfOutside ReadFault = Unit {0}
IsOfOutside Memory = Unit {0}

-- a program is refused
abbrev pub IsRefusal : BuildFault → Type 0
IsRefusal (Source fault) = ⊥
IsRefusal (NotBuilt file at) = ⊥
IsRefusal (Refused file at told) = Unit {0}
IsRefusal ReadFault = ⊥
IsRefusal Memory = ⊥

-- what is refused at this place, with this told behind it
abbrev pub IsRefusalAt : List ModuleTrees → Place → List ℕ → BuildFault → Type 0
IsRefusalAt ms place text (Source fault) = ⊥
IsRefusalAt ms place text (NotBuilt file at) = ⊥
IsRefusalAt ms place text (Refused file at told) = IsAt ms place file at × (string_bytes told ≡ text)
IsRefusalAt ms place text ReadFault = ⊥
IsRefusalAt ms place text Memory = ⊥

-- inference refuses the modules for this fault, whose symbols have these texts
abbrev pub IsOfElaboration : List ModuleTrees → List (List ℕ) → ElabFault → BuildFault → Type 0
IsOfElaboration ms texts refused fault =
    (place : Place) × (text : List ℕ) × IsToldOfElaboration texts (names_said ms) refused place text
    × IsRefusalAt ms place text fault

-- inference or the checker refuses the project's program, or memory ran out
abbrev pub IsOfProgram : ProjectTrees → BuildFault → Type 0
IsOfProgram p (Source fault) = ⊥
IsOfProgram p (NotBuilt file at) = ⊥
IsOfProgram p (Refused file at told) = IsRefused p file at (string_bytes told)
IsOfProgram p ReadFault = ⊥
IsOfProgram p Memory = Unit {0}

-- of a project that was read: one of both
abbrev pub IsOfModules : ProjectTrees → BuildFault → Type 0
IsOfModules p (Source fault) = ⊥
IsOfModules p (NotBuilt file at) = IsUnbuiltAt p.modules file at
IsOfModules p (Refused file at told) = AreBuilt p.modules × IsRefused p file at (string_bytes told)
IsOfModules p ReadFault = ⊥
IsOfModules p Memory = Unit {0}

-- What inference begins with is what the project says: the names of its modules, their declarations without sugar, the
-- names of the main interface, the rules on addresses and the foreign effects.
pub record IsSourceOf (p : ProjectTrees) (s : AnySource) : Type 0 where
  pub names : s.modules ≡ names_said p.modules
  pub trees : map plain_view s.trees.items ≡ trees_said p.modules
  pub exported : s.exported ≡ exported_said p.modules
  pub rules : rules_view s.rules ≡ rules_said p.said.rules
  pub foreign : foreigns_view s.foreign ≡ p.said.effects
