-- Why a project isn't built, as its files tell, and why a module alone isn't.
use Rattle.std.specs.Prelude.{◌≡◌, ◌≢◌, ℕ, ◌+◌, ◌<◌, ◌≤◌, ◌⊎◌, List, [], ◌∷◌, ◌++◌, length, All}
use Rattle.std.specs.Prelude.{codes, count_by, string_bytes, Some, None}
use Rattle.surface_grammar.specs.Trees.{Node, spell}
use Rattle.ur_outside.specs.Files.{Told}
use Rattle.ur_parser.specs.Sources.{module_part}
use Rattle.project_files.specs.Lines.{Line}
use Rattle.project_sources.specs.Modules.{ModuleTrees, module_file}
use Rattle.project_sources.specs.Projects.{HoldsProject, HoldsNoProject, ProjectTrees}
use Rattle.project_sources.specs.Texts.{HasNoTree, IsModuleTree}
use Rattle.project_sources.specs.declared.fault.SourceFault.{SourceFault}
use Rattle.project_sources.specs.declared.fault.SourceFault.TheVariants.{BadProject}
use Rattle.unbuilt_forms.specs.Unbuilt.{IsFirstUnbuilt}
use Rattle.site_build.specs.Refusals.{IsRefused}
use Rattle.site_build.specs.Sources.{only_module}
use Rattle.site_build.specs.Tables.{is_table, most_tables}
use Rattle.site_build.specs.declared.fault.BuildFault.{BuildFault}
use Rattle.site_build.specs.declared.fault.BuildFault.TheVariants.{Source, NotBuilt, Refused, ReadFault, Memory}

-- how many tables modules declare
abbrev pub tables_in : List ModuleTrees → ℕ
tables_in [] = 0
tables_in (m ∷ ms) = count_by is_table (spell m.tree) + tables_in ms

-- they declare too many, or not
abbrev pub HaveManyTables : List ModuleTrees → Type 0
HaveManyTables ms = most_tables < tables_in ms

abbrev pub HaveFewTables : List ModuleTrees → Type 0
HaveFewTables ms = tables_in ms ≤ most_tables

-- The first module with which they are too many: those before it declare not too many, and with it they do.
pub record IsBeyond (ms : List ModuleTrees) (m : ModuleTrees) : Type 0 where
  pub before : List ModuleTrees
  pub after : List ModuleTrees
  pub modules_are : ms ≡ before ++ m ∷ after
  pub few : HaveFewTables before
  pub many : HaveManyTables (before ++ m ∷ [])

-- these lines stand before the first that is this one, and those behind it
pub record IsFirst (lines before : List Line) (line : Line) (after : List Line) : Type 0 where
  pub lines_are : lines ≡ before ++ line ∷ after
  pub first : All (λ other. other ≢ line) before

-- The line of a project file, counted from 1, at which a module stands: behind the first empty line, before which the
-- directives stand, it is the first that names this module.
pub record IsLineOf (lines : List Line) (name : Line) (number : ℕ) : Type 0 where
  pub directives : List Line
  pub modules : List Line
  pub empty_line : IsFirst lines directives [] modules
  pub before : List Line
  pub after : List Line
  pub named : IsFirst modules before name after
  pub number_is : number ≡ length directives + 1 + length before + 1

-- no module has a form that isn't built yet
abbrev pub AreBuilt : List ModuleTrees → Type 0
AreBuilt [] = Unit {0}
AreBuilt (m ∷ ms) = IsFirstUnbuilt (spell m.tree) None × AreBuilt ms

-- the first form that isn't built yet stands in this file, at this byte
abbrev pub IsUnbuiltAt : List ModuleTrees → List ℕ → ℕ → Type 0
IsUnbuiltAt [] file at = ⊥
IsUnbuiltAt (m ∷ ms) file at =
    ((file ≡ module_file m.line) × IsFirstUnbuilt (spell m.tree) (Some at))
    ⊎ (IsFirstUnbuilt (spell m.tree) None × IsUnbuiltAt ms file at)

-- Why a project that was read isn't built: the first form of its modules that isn't built yet; or they have none, and
-- inference or the checker refuses them. Want of memory and a failure of the outside have no cause in them.
abbrev pub IsCauseOf : ProjectTrees → BuildFault → Type 0
IsCauseOf p (Source fault) = ⊥
IsCauseOf p (NotBuilt file at) = IsUnbuiltAt p.modules file at
IsCauseOf p (Refused file at told) = AreBuilt p.modules × IsRefused p file at (string_bytes told)
IsCauseOf p ReadFault = Unit {0}
IsCauseOf p Memory = Unit {0}

-- The folder holds a project that declares too many tables. That is told at the line of the project file at which the
-- first module stands with which they are too many.
abbrev pub HoldsTooMany : Told → List ℕ → List (List ℕ) → SourceFault → Type 0
HoldsTooMany files dir objects fault =
    (p : ProjectTrees) × (holds : HoldsProject files dir objects p) × (m : ModuleTrees) × IsBeyond p.modules m
    × (line : ℕ) × IsLineOf holds.says.says.lines m.line line × (fault ≡ BadProject holds.says.name line)

-- The sources of a project aren't taken: the folder holds none, for the first thing that stands in the way, or one that
-- declares too many tables.
abbrev pub IsCauseOfSources : Told → List ℕ → List (List ℕ) → SourceFault → Type 0
IsCauseOfSources files dir objects fault =
    HoldsNoProject files dir objects fault ⊎ HoldsTooMany files dir objects fault

-- the folder holds a project that has not too many tables, and its modules aren't built for this
abbrev pub IsCauseOfModules : Told → List ℕ → List (List ℕ) → BuildFault → Type 0
IsCauseOfModules files dir objects fault =
    (p : ProjectTrees) × HoldsProject files dir objects p × HaveFewTables p.modules × IsCauseOf p fault

-- Why the project in a folder isn't built.
abbrev pub IsCauseIn : Told → List ℕ → List (List ℕ) → BuildFault → Type 0
IsCauseIn files dir objects (Source fault) = IsCauseOfSources files dir objects fault
IsCauseIn files dir objects (NotBuilt file at) = IsCauseOfModules files dir objects (NotBuilt file at)
IsCauseIn files dir objects (Refused file at told) = IsCauseOfModules files dir objects (Refused file at told)
IsCauseIn files dir objects ReadFault = Unit {0}
IsCauseIn files dir objects Memory = Unit {0}

-- the file of a module alone
abbrev pub only_file : List ℕ
only_file = codes "Main.ur"

-- The text of a module alone isn't taken: it has no tree, for the first thing that stands in the way, or one that
-- declares too many tables.
abbrev pub IsCauseOfFile : List ℕ → SourceFault → Type 0
IsCauseOfFile bytes fault =
    HasNoTree module_part only_file bytes fault
    ⊎ (tree : Node) × IsModuleTree bytes tree × HaveManyTables (only_module tree).modules
    × (fault ≡ BadProject only_file 0)

-- it has a tree that declares not too many, and that isn't built for this
abbrev pub IsCauseOfTree : List ℕ → BuildFault → Type 0
IsCauseOfTree bytes fault =
    (tree : Node) × IsModuleTree bytes tree × HaveFewTables (only_module tree).modules
    × IsCauseOf (only_module tree) fault

-- Why a module alone isn't built.
abbrev pub IsCauseOfText : List ℕ → BuildFault → Type 0
IsCauseOfText bytes (Source fault) = IsCauseOfFile bytes fault
IsCauseOfText bytes (NotBuilt file at) = IsCauseOfTree bytes (NotBuilt file at)
IsCauseOfText bytes (Refused file at told) = IsCauseOfTree bytes (Refused file at told)
IsCauseOfText bytes ReadFault = Unit {0}
IsCauseOfText bytes Memory = Unit {0}
