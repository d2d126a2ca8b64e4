-- That each name of a program's source is in scope.
use Rattle.std.specs.Prelude.{◌≡◌, ℕ, true, List, Option}
use Rattle.core_terms.specs.Trees.{Ru, Pg}
use Rattle.plain_tree.specs.Trees.{DeclTree}
use Rattle.source_names.specs.Scopes.{Words}
use Rattle.source_terms.specs.Programs.{is_source}
use Rattle.unbound_names.specs.Programs.{unbound}

-- Where a name stands at some byte of some of these modules, and isn't in scope there, the modules are the source of
-- no program, whatever they export and whichever rules on addresses stand beside them. So modules that are refused for
-- an unbound name have no program at all, and modules that have one are never refused so.
abbrev pub UnboundIsNoSource : Type 0
UnboundIsNoSource = (names : List Words) (trees : List (List DeclTree)) (effects : List (Words × Words))
    (file at : ℕ) (written : Words) (exported : Option (List Words)) (rules : List Ru) (p : Pg)
    → unbound names trees effects file at written ≡ true
    → is_source names trees exported rules effects p ≡ true
    → ⊥
