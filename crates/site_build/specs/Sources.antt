-- The program that the sources of a project say.
use Rattle.std.specs.Prelude.{◌≡◌, ℕ, true, List, [], ◌∷◌, codes, None}
use Rattle.surface_grammar.specs.Trees.{Node}
use Rattle.core_terms.specs.Trees.{Pg}
use Rattle.core_typing.specs.Accepts.{Accepts}
use Rattle.inserted_terms.specs.Programs.{InsertsChosen}
use Rattle.placed_terms.specs.Placed.{are_placed}
use Rattle.plain_projects.specs.Said.{exported_said, names_said, rules_said, trees_said}
use Rattle.project_files.specs.Projects.{nothing_said}
use Rattle.project_sources.specs.Projects.{HoldsProject, ProjectTrees}
use Rattle.project_sources.specs.Texts.{IsModuleTree}
use Rattle.source_terms.specs.Programs.{is_source}
use Rattle.ur_outside.specs.Files.{Told}

-- The program is what the project says: its modules without sugar, with their names resolved and nothing left out. Each
-- folder and each instance that a call of it inserts is the one that its rules choose, or a gap where they choose none;
-- an accepted program has no gap. Its nodes stand where those of the modules do for which they were made.
pub record IsProgramOf (p : ProjectTrees) (g : Pg) : Type 0 where
  pub says : is_source (names_said p.modules) (trees_said p.modules) (exported_said p.modules)
      (rules_said p.said.rules) p.said.effects g
      ≡ true
  pub inserts : InsertsChosen (names_said p.modules) (trees_said p.modules) g
  pub placed : are_placed (trees_said p.modules) g ≡ true

-- the program is what the project in a folder says
abbrev pub IsProgramIn : Told → List ℕ → List (List ℕ) → Pg → Type 0
IsProgramIn files dir objects g = (p : ProjectTrees) × HoldsProject files dir objects p × IsProgramOf p g

-- the folder holds a project, and an accepted program is what it says
abbrev pub HasProgram : Told → List ℕ → List (List ℕ) → Type 0
HasProgram files dir objects = (g : Pg) × IsProgramIn files dir objects g × Accepts g

-- a module alone, as a project
abbrev pub only_module : Node → ProjectTrees
only_module tree = record {
  said = record nothing_said { in_modules = true };
  modules = record { line = codes "Main"; tree = tree; interface = None } ∷ [];
}

-- the program is what a module alone says, whose name is Main
abbrev pub IsProgramOfText : List ℕ → Pg → Type 0
IsProgramOfText bytes g =
    (tree : Node) × IsModuleTree bytes tree × IsProgramOf (only_module tree) g
