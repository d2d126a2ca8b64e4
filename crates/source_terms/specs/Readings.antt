-- What is behind a reading, as the code tells it.
use Rattle.std.specs.Prelude.{ℕ, Bool, true, false, List, drop, Option, Some, None}
use Rattle.core_terms.specs.Trees.{De}
use Rattle.source_names.specs.Scopes.{Declared}
use Rattle.source_terms.specs.Programs.{Reading}

-- behind declarations: what is declared, and the program's declarations from a place on
abbrev pub behind_decls : Option ℕ → Declared → List De → Option Reading
behind_decls None d es = None
behind_decls (Some n) d es = Some (d, drop n es)

-- behind modules: what is declared
abbrev pub behind_modules : Bool → Declared → Option Declared
behind_modules false d = None
behind_modules true d = Some d
