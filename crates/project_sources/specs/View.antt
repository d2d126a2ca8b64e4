-- What the program's own values say.
use Rattle.std.specs.Prelude.{◌≡◌, ℕ, List, [], ◌∷◌, Option, Some, None}
use Rattle.surface_grammar.specs.Listings.{Listing, Lists}
use Rattle.surface_grammar.specs.Trees.{Node}
use Rattle.ur_outside.specs.Files.{Told}
use Rattle.project_files.specs.Lines.{Line}
use Rattle.project_files.specs.View.{said_by}
use Rattle.project_sources.specs.declared.modules.ModuleSource.{ModuleSource}
use Rattle.project_sources.specs.declared.projects.Sources.{Sources}
use Rattle.project_sources.specs.Texts.{IsModuleTree, IsInterfaceTree}
use Rattle.project_sources.specs.Modules.{ModuleTrees, AreModules, HasInterfaceFile, HasModuleFile, IsModule}
use Rattle.project_sources.specs.Projects.{ProjectTrees, HoldsProject}

-- a tree of the code lists this one, or there is neither
abbrev pub ListsOption : Option Listing → Option Node → Type 0
ListsOption None None = Unit {0}
ListsOption None (Some node) = ⊥
ListsOption (Some tree) None = ⊥
ListsOption (Some tree) (Some node) = Lists tree node

-- what was read of a module is this one
pub record ListsModule (source : ModuleSource) (m : ModuleTrees) : Type 0 where
  pub line : source.line ≡ m.line
  pub tree : Lists source.tree m.tree
  pub interface : ListsOption source.interface m.interface

-- one after the other
abbrev pub ListsModules : List ModuleSource → List ModuleTrees → Type 0
ListsModules [] [] = Unit {0}
ListsModules [] (m ∷ ms) = ⊥
ListsModules (source ∷ sources) [] = ⊥
ListsModules (source ∷ sources) (m ∷ ms) = ListsModule source m × ListsModules sources ms

-- what was read of a project is this one
pub record ListsProject (sources : Sources) (p : ProjectTrees) : Type 0 where
  pub said : said_by sources.project ≡ p.said
  pub modules : ListsModules sources.modules.items p.modules

-- the tree of the code is that of a module with these bytes, or of an interface
abbrev pub IsModuleListing : List ℕ → Listing → Type 0
IsModuleListing bytes tree = (node : Node) × IsModuleTree bytes node × Lists tree node

abbrev pub IsInterfaceListing : List ℕ → Listing → Type 0
IsInterfaceListing bytes tree = (node : Node) × IsInterfaceTree bytes node × Lists tree node

-- what was read is the tree of a module's file, or of an interface's, where that is there
abbrev pub IsModuleRead : Option (List ℕ) → Listing → Type 0
IsModuleRead content tree = (node : Node) × HasModuleFile content node × Lists tree node

abbrev pub IsInterfaceRead : Option (List ℕ) → Option Listing → Type 0
IsInterfaceRead content tree = (node : Option Node) × HasInterfaceFile content node × ListsOption tree node

-- what was read is the module that a line names, or the modules that lines name
abbrev pub IsModuleSource : Told → List ℕ → Line → ModuleSource → Type 0
IsModuleSource files dir line source = (m : ModuleTrees) × IsModule files dir line m × ListsModule source m

abbrev pub AreModuleSources : Told → List ℕ → List Line → List ModuleSource → Type 0
AreModuleSources files dir lines sources =
    (ms : List ModuleTrees) × AreModules files dir lines ms × ListsModules sources ms

-- What was read is the project that the folder holds.
abbrev pub IsProject : Told → List ℕ → List Line → Sources → Type 0
IsProject files dir objects sources = (p : ProjectTrees) × HoldsProject files dir objects p × ListsProject sources p
