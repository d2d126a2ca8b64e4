-- Which program the modules of a project determine.
use Rattle.std.specs.Prelude.{◌≡◌, ℕ, ◌+◌, ◌==◌, Bool, true, false, not, ◌&&◌, ◌||◌, bytes_eq, List, [], ◌∷◌, reverse, Option, Some, None, if◌then◌else◌}
use Rattle.core_terms.specs.Trees.{De, Ru, Pg}
use Rattle.plain_tree.specs.Trees.{DeclTree}
use Rattle.source_names.specs.Scopes.{Words, DeclaredValue, Declared, nothing_declared, begin_module, last_home}
use Rattle.guided_terms.specs.Calls.{GuardAsked, guards_hold, guards_unasked}
use Rattle.guided_terms.specs.Declarations.{Reached, DeclGuided}

-- before the first module
abbrev pub at_start : Reached
at_start = record { declared = nothing_declared; tops = []; datatypes = [] }

-- behind the beginning of a module of a name
abbrev pub in_module : Words → Reached → Reached
in_module x r = record { declared = begin_module x r.declared; tops = r.tops; datatypes = r.datatypes }

-- the declarations of a module, one by one, and then those that are left of the program's
pub data ModuleGuided (A : GuardAsked) (p : Pg) : Reached → List DeclTree → List De → List De → Reached → Type 0 where
  no_declaration : {r : Reached} {ds : List De} → ModuleGuided A p r [] ds ds r
  a_declaration : {r l m : Reached} {x : DeclTree} {xs : List DeclTree} {d : De} {ds rest : List De}
      (guided : DeclGuided A p r x d l)
      (others : ModuleGuided A p l xs ds rest m)
      → ModuleGuided A p r (x ∷ xs) (d ∷ ds) rest m

-- the modules, of whose declarations none is left over
pub data ModulesGuided (A : GuardAsked) (p : Pg) :
    Reached → List Words → List (List DeclTree) → List De → Reached → Type 0 where
  no_module : {r : Reached} → ModulesGuided A p r [] [] [] r
  a_module : {r l m : Reached} {x : Words} {xs : List Words} {t : List DeclTree} {ts : List (List DeclTree)}
      {ds rest : List De}
      (guided : ModuleGuided A p (in_module x r) t ds rest l)
      (others : ModulesGuided A p l xs ts rest m)
      → ModulesGuided A p r (x ∷ xs) (t ∷ ts) ds m

-- whether a name is one of these
abbrev pub is_one_of : Words → List Words → Bool
is_one_of x [] = false
is_one_of x (n ∷ ns) = bytes_eq n x || is_one_of x ns

-- whether a name is exported: each is where no interface selects some
abbrev pub is_exported : Option (List Words) → Words → Bool
is_exported None x = true
is_exported (Some ns) x = is_one_of x ns

-- whether a module declares a name among these values
abbrev pub declares : ℕ → Words → List DeclaredValue → Bool
declares h x [] = false
declares h x (v ∷ vs) = v.home == h && bytes_eq v.name x || declares h x vs

-- the numbers of the exported values of a module, where these are in order and the first has this number. Of several of
-- one name the last is exported
abbrev pub exports_from : ℕ → Option (List Words) → ℕ → List DeclaredValue → List ℕ
exports_from h o n [] = []
exports_from h o n (v ∷ vs) =
    if v.home == h && is_exported o v.name && not (declares h v.name vs)
    then n ∷ exports_from h o (n + 1) vs else exports_from h o (n + 1) vs

-- the numbers of the exported values of the last module
abbrev pub exports_of : Option (List Words) → Declared → List ℕ
exports_of o d = exports_from (last_home d.modules) o 0 (reverse d.values)

-- Modules of these names, of which the last exports these, with these rules and foreign effects, determine a program.
pub record ProgramGuided (A : GuardAsked) (names : List Words) (trees : List (List DeclTree))
    (exported : Option (List Words)) (rules : List Ru) (effects : List (Words × Words)) (p : Pg) : Type 0 where
  pub modules : p.modules ≡ names
  pub its_rules : p.rules ≡ rules
  pub its_effects : p.foreigns ≡ effects
  pub reached : Reached
  pub guided : ModulesGuided A p at_start names trees p.decls reached
  pub exports : p.exports ≡ exports_of exported reached.declared

-- with guards that hold, and whatever is left of guards to the checker
abbrev pub GuidedProgram : List Words → List (List DeclTree) → Option (List Words) → List Ru →
    List (Words × Words) → Pg → Type 0
GuidedProgram = ProgramGuided guards_hold

abbrev pub DeterminedProgram : List Words → List (List DeclTree) → Option (List Words) → List Ru →
    List (Words × Words) → Pg → Type 0
DeterminedProgram = ProgramGuided guards_unasked
