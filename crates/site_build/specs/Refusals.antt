-- Why the program of a project is refused, as the line of the refusal tells.
use Rattle.std.specs.Prelude.{◌≡◌, ℕ, ◌⊎◌, Bool, true, List, Some, nat_eq}
use Rattle.std.specs.List.{list_any, slice_get}
use Rattle.surface_grammar.specs.Trees.{spell}
use Rattle.surface_tree.specs.declared.token.Token.{Token}
use Rattle.con_terms.specs.declared.place.Place.{Place}
use Rattle.core_terms.specs.Trees.{Pg}
use Rattle.core_typing.specs.Faults.{Fault}
use Rattle.core_typing.specs.Tells.{ProgramTells}
use Rattle.fault_lines.specs.Lines.{IsToldOf, IsToldOfElaboration}
use Rattle.name_scopes.specs.declared.fault.ElabFault.{ElabFault}
use Rattle.plain_projects.specs.Said.{names_said, trees_said}
use Rattle.program_elaborator.specs.Causes.{is_caused}
use Rattle.project_sources.specs.Modules.{ModuleTrees, module_file}
use Rattle.project_sources.specs.Projects.{ProjectTrees}
use Rattle.site_build.specs.Sources.{IsProgramOf}

-- whether a token begins at a byte
abbrev pub begins_at : ℕ → Token → Bool
begins_at at token = nat_eq token.at at

-- The byte of a file that a place is: the file is that of the module with the place's number, counted from 0, and a
-- token of the module begins at the byte.
abbrev pub IsAt : List ModuleTrees → Place → List ℕ → ℕ → Type 0
IsAt ms place file at = (m : ModuleTrees) × (slice_get ms place.file ≡ Some m) × (file ≡ module_file m.line)
    × (at ≡ place.at) × (list_any (begins_at at) (spell m.tree) ≡ true)

-- Inference refuses the project for a fault that is told so, over some texts of its symbols. A name that isn't bound
-- stands at that place and isn't in scope there; of other faults nothing is said of the project.
abbrev pub IsUninferred : ProjectTrees → Place → List ℕ → Type 0
IsUninferred p place told = (fault : ElabFault) × (texts : List (List ℕ))
    × (is_caused (names_said p.modules) (trees_said p.modules) p.said.effects fault ≡ true)
    × IsToldOfElaboration texts (names_said p.modules) fault place told

-- The checker refuses a program that is what the project says, for a fault that is told so: a first one in text order
-- of the premises of typing that fail in the program, by the places that the program has. That there is no instance or
-- no folder is told so, of a gap in the program.
abbrev pub IsUnchecked : ProjectTrees → Place → List ℕ → Type 0
IsUnchecked p place told = (g : Pg) × IsProgramOf p g
    × (fault : Fault) × ProgramTells g fault × IsToldOf g fault place told

-- the project's program is refused at a byte of a file, with this told behind it
abbrev pub IsRefused : ProjectTrees → List ℕ → ℕ → List ℕ → Type 0
IsRefused p file at told =
    (place : Place) × IsAt p.modules place file at × (IsUninferred p place told ⊎ IsUnchecked p place told)
