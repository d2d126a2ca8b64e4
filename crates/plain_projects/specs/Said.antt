-- What the trees of a project say without sugar.
use Rattle.std.specs.Prelude.{ℕ, Bool, List, [], ◌∷◌, map, Option, Some, None}
use Rattle.surface_grammar.specs.Trees.{Node}
use Rattle.project_files.specs.Directives.{module_name}
use Rattle.project_sources.specs.Modules.{ModuleTrees}
use Rattle.plain_tree.specs.Trees.{DeclTree, SignedTree}
use Rattle.core_terms.specs.Trees.{Ru}
use Rattle.desugar.specs.Plain.{plain_of, interface_of}

-- the modules' names, and their declarations without sugar
abbrev pub names_said : List ModuleTrees → List (List ℕ)
names_said ms = map (λ (m : ModuleTrees). module_name m.line) ms

abbrev pub trees_said : List ModuleTrees → List (List DeclTree)
trees_said ms = map (λ (m : ModuleTrees). plain_of m.tree) ms

-- the names of an interface
abbrev pub names_signed : List SignedTree → List (List ℕ)
names_signed ss = map (λ (s : SignedTree). s.name.text) ss

abbrev pub exported_by : Option Node → Option (List (List ℕ))
exported_by None = None
exported_by (Some interface) = Some (names_signed (interface_of interface))

-- the names that the interface of the last module has, where it has one
abbrev pub exported_said : List ModuleTrees → Option (List (List ℕ))
exported_said [] = None
exported_said (m ∷ []) = exported_by m.interface
exported_said (m ∷ n ∷ ms) = exported_said (n ∷ ms)

-- the rules on addresses
abbrev pub rules_said : List (Bool × List ℕ) → List Ru
rules_said rules = map (λ (r : Bool × List ℕ). record { allow = r.0; pattern = r.1 }) rules
