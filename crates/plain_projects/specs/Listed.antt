-- Trees of the code, one after the other.
use Rattle.std.specs.Prelude.{◌≡◌, ℕ, List, [], ◌∷◌, Option, Some, None}
use Rattle.surface_grammar.specs.Listings.{Listing, Lists}
use Rattle.surface_grammar.specs.Refusals.{Whole}
use Rattle.surface_grammar.specs.Trees.{Node}
use Rattle.project_sources.specs.Modules.{ModuleTrees}
use Rattle.project_sources.specs.declared.modules.ModuleSource.{ModuleSource}
use Rattle.ur_parser.specs.Sources.{module_part, interface_part}
use Rattle.plain_tree.specs.Trees.{DeclTree}
use Rattle.desugar.specs.Plain.{plain_of, interface_of}
use Rattle.plain_projects.specs.Said.{names_signed, exported_by}

-- each tree is that of a module, and each interface that of an interface
abbrev pub IsWholeInterface : Option Node → Type 0
IsWholeInterface None = Unit {0}
IsWholeInterface (Some interface) = (room : ℕ) × Whole room interface_part interface

pub record IsWholeModule (m : ModuleTrees) : Type 0 where
  pub tree : (room : ℕ) × Whole room module_part m.tree
  pub interface : IsWholeInterface m.interface

abbrev pub AreWhole : List ModuleTrees → Type 0
AreWhole [] = Unit {0}
AreWhole (m ∷ ms) = IsWholeModule m × AreWhole ms

-- these declarations are what a tree of the code says
abbrev pub IsPlainOf : Listing → List DeclTree → Type 0
IsPlainOf tree ds = (room : ℕ) (n : Node) → Lists tree n → Whole room module_part n → ds ≡ plain_of n

abbrev pub ArePlainOf : List ModuleSource → List (List DeclTree) → Type 0
ArePlainOf [] [] = Unit {0}
ArePlainOf [] (ds ∷ rest) = ⊥
ArePlainOf (m ∷ ms) [] = ⊥
ArePlainOf (m ∷ ms) (ds ∷ rest) = IsPlainOf m.tree ds × ArePlainOf ms rest

-- these names are those of an interface of the code, where there is one
abbrev pub AreSigned : Option Listing → Option (List (List ℕ)) → Type 0
AreSigned None None = Unit {0}
AreSigned None (Some names) = ⊥
AreSigned (Some tree) None = ⊥
AreSigned (Some tree) (Some names) =
    (room : ℕ) (n : Node) → Lists tree n → Whole room interface_part n → names ≡ names_signed (interface_of n)

-- these names are those of the interface of the last module, where it has one
abbrev pub AreExported : List ModuleSource → Option (List (List ℕ)) → Type 0
AreExported [] None = Unit {0}
AreExported [] (Some names) = ⊥
AreExported (m ∷ []) names = AreSigned m.interface names
AreExported (m ∷ n ∷ ms) names = AreExported (n ∷ ms) names
