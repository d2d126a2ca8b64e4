-- The tables of a program.
use Rattle.std.proofs.Common.{◌≡◌, ℕ, List, [], ◌∷◌, map, refl, ap}
use Rattle.con_terms.specs.Trees.{Kd}
use Rattle.core_terms.specs.View.{folder_view, program_view}
use Rattle.core_terms.specs.declared.program.FolderName.{FolderName}
use Rattle.core_terms.specs.declared.program.Program.{Program}
use Rattle.source_names.specs.Scopes.{Tables}
use Rattle.source_names.specs.View.{folder_symbol, tables_view}
use Rattle.source_terms.specs.Programs.{tables_of}

folder_symbols : (fs : List FolderName) → map folder_symbol fs ≡ map (λ (f : Kd × ℕ). f.1) (map folder_view fs)
folder_symbols [] = refl
folder_symbols (f ∷ fs) = ap (λ ns. folder_symbol f ∷ ns) (folder_symbols fs)

pub tables_are : (p : Program) → tables_view p ≡ tables_of (program_view p)
tables_are p =
    ap (λ ns. record { texts = p.names; effects = (tables_view p).effects; folders = ns })
    (folder_symbols p.folders.items.items)
