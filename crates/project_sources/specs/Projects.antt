-- The project in a folder, as its files tell it, and why there is none.
use Rattle.std.specs.Prelude.{◌≡◌, ℕ, ◌<◌, ◌≤◌, Bool, true, false, ◌==◌, List, [], ◌∷◌, ◌++◌, length}
use Rattle.std.specs.Prelude.{codes, filter, Some}
use Rattle.std.specs.List.{ends_with, list_all}
use Rattle.ur_outside.specs.Files.{Told, names_in}
use Rattle.project_files.specs.Lines.{Line}
use Rattle.project_files.specs.Projects.{Said, is_among, IsRefusedAt}
use Rattle.project_files.specs.Projects as text
use Rattle.project_sources.specs.declared.fault.SourceFault.{SourceFault}
use Rattle.project_sources.specs.declared.fault.SourceFault.TheVariants.{BadProject, UnknownForeign, FileTooLong}
use Rattle.project_sources.specs.Causes.{Says}
use Rattle.project_sources.specs.Texts.{longest}
use Rattle.project_sources.specs.Modules.{ModuleTrees, AreModules, HaveNoModules, file_in}

-- ---- the project file

-- a project file's name ends in `.urp`
abbrev pub is_project_name : List ℕ → Bool
is_project_name name = ends_with (λ a b. a == b) name (codes ".urp")

-- of these names this one is a project file's, and no other
abbrev pub IsOnlyProject : List (List ℕ) → List ℕ → Type 0
IsOnlyProject names name = filter is_project_name names ≡ name ∷ []

-- of the files in the folder this one is a project file, and no other
abbrev pub IsProjectFile : Told → List ℕ → List ℕ → Type 0
IsProjectFile files dir name = IsOnlyProject (names_in files dir) name

-- The project file of the folder says this.
pub record SaysProject (files : Told) (dir : List ℕ) (said : Said) : Type 0 where
  pub name : List ℕ
  pub only : IsProjectFile files dir name
  pub bytes : List ℕ
  pub there : file_in files dir name ≡ Some bytes
  pub few : length bytes ≤ longest
  pub says : text.IsProject bytes said

-- Why the folder says no project.
pub data SaysNoProject (files : Told) (dir : List ℕ) (fault : SourceFault) : Type 0 where
  -- there is no folder, or it holds not exactly one project file
  no_file : ((name : List ℕ) → IsProjectFile files dir name → ⊥) → fault ≡ BadProject dir 0
      → SaysNoProject files dir fault
  -- the project file is too long
  too_long : (name bytes : List ℕ) → IsProjectFile files dir name → file_in files dir name ≡ Some bytes
      → longest < length bytes → fault ≡ FileTooLong name → SaysNoProject files dir fault
  -- or one of its lines may not stand there
  bad_line : (name bytes : List ℕ) (line : ℕ) → IsProjectFile files dir name → file_in files dir name ≡ Some bytes
      → length bytes ≤ longest → IsRefusedAt bytes line → fault ≡ BadProject name line
      → SaysNoProject files dir fault

-- ---- foreign modules

-- each of these names is among the objects that are there
abbrev pub AllThere : List Line → List Line → Type 0
AllThere objects names = list_all (λ name. is_among name objects) names ≡ true

-- the first of these names that isn't
pub record IsFirstUnknown (objects names : List Line) (name : Line) : Type 0 where
  pub before : List Line
  pub after : List Line
  pub names_are : names ≡ before ++ name ∷ after
  pub known : AllThere objects before
  pub unknown : is_among name objects ≡ false

-- ---- the project

-- a project: what its file says, and its modules in the order of their lines
pub record ProjectTrees : Type 0 where
  pub said : Said
  pub modules : List ModuleTrees

-- The folder holds this project.
pub record HoldsProject (files : Told) (dir : List ℕ) (objects : List Line) (p : ProjectTrees) : Type 0 where
  pub says : SaysProject files dir p.said
  pub foreign : AllThere objects p.said.foreign
  pub modules : AreModules files dir p.said.modules p.modules

-- Why the folder holds no project: the first that stands in the way.
pub data HoldsNoProject (files : Told) (dir : List ℕ) (objects : List Line) (fault : SourceFault) : Type 0 where
  no_project : SaysNoProject files dir fault → HoldsNoProject files dir objects fault
  unknown_foreign : (said : Said) → SaysProject files dir said → (name : Line)
      → IsFirstUnknown objects said.foreign name → fault ≡ UnknownForeign name
      → HoldsNoProject files dir objects fault
  no_modules : (said : Said) → SaysProject files dir said → AllThere objects said.foreign
      → HaveNoModules files dir said.modules fault → HoldsNoProject files dir objects fault

-- The cause of a fault; want of memory and a failure of the outside have none in the files.
abbrev pub IsCause : Told → List ℕ → List Line → SourceFault → Type 0
IsCause files dir objects fault = Says (HoldsNoProject files dir objects) fault

-- ---- laws

-- A folder holds one project at most, and isn't refused where it holds one.
abbrev pub FoldersHaveOneAnswer : Type 0
FoldersHaveOneAnswer = (files : Told) (dir : List ℕ) (objects : List Line) (p : ProjectTrees) (fault : SourceFault)
    → HoldsProject files dir objects p
    → ((other : ProjectTrees) → HoldsProject files dir objects other → p ≡ other)
    × (HoldsNoProject files dir objects fault → ⊥)

-- A folder is refused for one reason at most.
abbrev pub RefusalsHaveOneCause : Type 0
RefusalsHaveOneCause = (files : Told) (dir : List ℕ) (objects : List Line) (fault other : SourceFault)
    → HoldsNoProject files dir objects fault → HoldsNoProject files dir objects other → fault ≡ other
