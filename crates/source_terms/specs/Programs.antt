-- Whether a program is what a source says, with its names resolved.
use Rattle.std.specs.Prelude.{ℕ, ◌+◌, ◌==◌, Bool, true, false, not, ◌&&◌, ◌||◌, if◌then◌else◌, bytes_eq, nat_eq}
use Rattle.std.specs.Prelude.{List, [], ◌∷◌, map, reverse, Option, Some, None, option_and_then}
use Rattle.con_terms.specs.Trees.{Kd}
use Rattle.core_terms.specs.Strip.{strip_decl}
use Rattle.core_terms.specs.Trees.{De, Ru, Pg}
use Rattle.plain_tree.specs.Trees.{DeclTree}
use Rattle.source_names.specs.Scopes.{Words, DeclaredValue, Declared, Tables, nothing_declared, begin_module}
use Rattle.source_names.specs.Scopes.{last_home}
use Rattle.source_terms.specs.Alike.{each, effect_eq, rule_eq}
use Rattle.source_terms.specs.Declarations.{reads_decl, declared_after}

-- what is declared, and the declarations of a program that are still to be read
abbrev pub Reading : Type 0
Reading = Declared × List De

-- Behind a module: each of its declarations is the program's next, where all those before are in scope. None where
-- one isn't.
abbrev pub after_decls : Tables → Declared → List DeclTree → List De → Option Reading
after_decls t d [] es = Some (d, es)
after_decls t d (x ∷ xs) [] = None
after_decls t d (x ∷ xs) (e ∷ es) =
    if reads_decl t d x (strip_decl e) then after_decls t (declared_after d x e) xs es else None

-- behind all modules, of whose names, trees and declarations in the program nothing is left over
abbrev pub after_modules : Tables → Declared → List Words → List (List DeclTree) → List De → Option Declared
after_modules t d [] [] [] = Some d
after_modules t d (m ∷ ms) (x ∷ xs) es =
    option_and_then (λ (r : Reading). after_modules t r.0 ms xs r.1) (after_decls t (begin_module m d) x es)
after_modules _ _ _ _ _ = None

-- whether a name is one of these
abbrev pub is_one_of : Words → List Words → Bool
is_one_of x [] = false
is_one_of x (n ∷ ns) = bytes_eq n x || is_one_of x ns

-- whether a name is exported: each is where no interface selects some
abbrev pub is_exported : Option (List Words) → Words → Bool
is_exported None x = true
is_exported (Some ns) x = is_one_of x ns

-- whether a module declares a name among these values
abbrev pub declares : ℕ → Words → List DeclaredValue → Bool
declares h x [] = false
declares h x (v ∷ vs) = v.home == h && bytes_eq v.name x || declares h x vs

-- whether a value is one of this module, is exported, and is the last of its name, where these are behind it
abbrev pub is_export : ℕ → Option (List Words) → DeclaredValue → List DeclaredValue → Bool
is_export h o v vs = v.home == h && is_exported o v.name && not (declares h v.name vs)

-- the numbers of the exported values of a module, where these are in order and the first has this number
abbrev pub exports_from : ℕ → Option (List Words) → ℕ → List DeclaredValue → List ℕ
exports_from h o n [] = []
exports_from h o n (v ∷ vs) =
    if is_export h o v vs then n ∷ exports_from h o (n + 1) vs else exports_from h o (n + 1) vs

-- the numbers of the exported values of the last module
abbrev pub exports_of : Option (List Words) → Declared → List ℕ
exports_of o d = exports_from (last_home d.modules) o 0 (reverse d.values)

-- whether numbers are those of what is exported
abbrev pub are_exports : Option (List Words) → Option Declared → List ℕ → Bool
are_exports o None ns = false
are_exports o (Some d) ns = each nat_eq (exports_of o d) ns

-- the tables of a program
abbrev pub tables_of : Pg → Tables
tables_of p = record { texts = p.names; effects = p.foreigns; folders = map (λ (f : Kd × ℕ). f.1) p.folders }

-- Whether a program is what modules of these names say, of which the last exports these names, with these rules and
-- foreign effects.
abbrev pub is_source : List Words → List (List DeclTree) → Option (List Words) → List Ru → List (Words × Words) → Pg
    → Bool
is_source names trees exported rules effects p =
    each bytes_eq names p.modules
    && each rule_eq rules p.rules
    && each effect_eq effects p.foreigns
    && are_exports exported (after_modules (tables_of p) nothing_declared names trees p.decls) p.exports
