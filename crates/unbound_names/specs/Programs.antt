-- Whether a name stands at a byte of a module, and isn't in scope there.
use Rattle.std.specs.Prelude.{ℕ, zero, suc, Bool, List, [], ◌∷◌, get_or}
use Rattle.plain_tree.specs.Trees.{DeclTree}
use Rattle.source_names.specs.Scopes.{Words, Declared, nothing_declared, begin_module}
use Rattle.unbound_names.specs.Asked.{Ask}
use Rattle.unbound_names.specs.InScope.{tables_with}
use Rattle.unbound_names.specs.Declarations.{unbound_decls, declared_behind_all}

-- What is declared where the module with this number begins, of modules with these names, in their order. One without a
-- name in the list has the empty one.
abbrev pub declared_before : List Words → List (List DeclTree) → ℕ → Declared
declared_before names trees zero = begin_module (get_or names 0 []) nothing_declared
declared_before names trees (suc n) =
    begin_module (get_or names (suc n) []) (declared_behind_all (get_or trees n []) (declared_before names trees n))

-- Whether a name that is written so stands at this byte of the module with this number, and isn't in scope there, where
-- modules have these names and there are these foreign effects.
abbrev pub unbound : List Words → List (List DeclTree) → List (Words × Words) → ℕ → ℕ → Words → Bool
unbound names trees effects file at written =
    unbound_decls (record { at = at; written = written }) (tables_with effects) (declared_before names trees file)
    (get_or trees file [])
