-- The modules of a project, as its files tell them.
use Rattle.std.specs.Prelude.{◌≡◌, ℕ, List, [], ◌∷◌, ◌++◌, codes, Option, Some, None}
use Rattle.surface_grammar.specs.Trees.{Node}
use Rattle.ur_outside.specs.Files.{Told, file_at}
use Rattle.ur_parser.specs.Sources.{module_part, interface_part}
use Rattle.project_files.specs.Lines.{Line}
use Rattle.project_sources.specs.declared.fault.SourceFault.{SourceFault}
use Rattle.project_sources.specs.declared.fault.SourceFault.TheVariants.{MissingFile}
use Rattle.project_sources.specs.Texts.{IsModuleTree, IsInterfaceTree, HasNoTree}

-- what the file of this name in a folder holds, where it is there
abbrev pub file_in : Told → List ℕ → List ℕ → Option (List ℕ)
file_in files dir name = file_at files (dir ++ codes "/" ++ name)

-- the files of a module: its own, and that of its interface
abbrev pub module_file : Line → List ℕ
module_file line = line ++ codes ".ur"

abbrev pub interface_file : Line → List ℕ
interface_file line = line ++ codes ".urs"

-- a module: its line in the project file, its tree, and that of its interface, where it has one
pub record ModuleTrees : Type 0 where
  pub line : Line
  pub tree : Node
  pub interface : Option Node

-- a module's file is there, and has this tree
abbrev pub HasModuleFile : Option (List ℕ) → Node → Type 0
HasModuleFile None tree = ⊥
HasModuleFile (Some bytes) tree = IsModuleTree bytes tree

-- an interface's file is there, and has this tree; or it isn't, and there is none
abbrev pub HasInterfaceFile : Option (List ℕ) → Option Node → Type 0
HasInterfaceFile None None = Unit {0}
HasInterfaceFile None (Some tree) = ⊥
HasInterfaceFile (Some bytes) None = ⊥
HasInterfaceFile (Some bytes) (Some tree) = IsInterfaceTree bytes tree

-- the module that a line of the project file names
pub record IsModule (files : Told) (dir : List ℕ) (line : Line) (m : ModuleTrees) : Type 0 where
  pub named : m.line ≡ line
  pub tree : HasModuleFile (file_in files dir (module_file line)) m.tree
  pub interface : HasInterfaceFile (file_in files dir (interface_file line)) m.interface

-- the modules that lines name, in order
abbrev pub AreModules : Told → List ℕ → List Line → List ModuleTrees → Type 0
AreModules files dir [] [] = Unit {0}
AreModules files dir [] (m ∷ ms) = ⊥
AreModules files dir (line ∷ lines) [] = ⊥
AreModules files dir (line ∷ lines) (m ∷ ms) = IsModule files dir line m × AreModules files dir lines ms

-- Why a line names no module.
pub data HasNoModule (files : Told) (dir : List ℕ) (line : Line) (fault : SourceFault) : Type 0 where
  -- its file isn't there
  missing : file_in files dir (module_file line) ≡ None → fault ≡ MissingFile (module_file line)
      → HasNoModule files dir line fault
  -- its file has no tree
  no_tree : (bytes : List ℕ) → file_in files dir (module_file line) ≡ Some bytes
      → HasNoTree module_part (module_file line) bytes fault → HasNoModule files dir line fault
  -- its file has one, and that of its interface, which is there, has none
  no_interface : (tree : Node) → HasModuleFile (file_in files dir (module_file line)) tree
      → (bytes : List ℕ) → file_in files dir (interface_file line) ≡ Some bytes
      → HasNoTree interface_part (interface_file line) bytes fault → HasNoModule files dir line fault

-- Why lines name no modules: the first that names none names none for this reason.
pub record HaveNoModules (files : Told) (dir : List ℕ) (lines : List Line) (fault : SourceFault) : Type 0 where
  pub before : List Line
  pub line : Line
  pub after : List Line
  pub lines_are : lines ≡ before ++ line ∷ after
  pub modules : List ModuleTrees
  pub read : AreModules files dir before modules
  pub none : HasNoModule files dir line fault
