-- What it is for a program to be what its source says, part by part.
use Rattle.std.specs.Prelude.{◌≡◌, ◌↔◌, ℕ, true, List, Option, Some}
use Rattle.core_terms.specs.Trees.{Ru, Pg}
use Rattle.plain_tree.specs.Trees.{DeclTree}
use Rattle.source_names.specs.Scopes.{Words, Declared, nothing_declared}
use Rattle.source_terms.specs.Programs.{tables_of, after_modules, exports_of, is_source}

-- A program has the modules' names, the rules and the foreign effects of its source; its declarations are those of
-- the modules one after another, each read where those before it are declared; and it exports the values of the main
-- module that the interface names.
pub record IsSource (ms : List Words) (xs : List (List DeclTree)) (o : Option (List Words)) (rs : List Ru)
    (es : List (Words × Words)) (p : Pg) : Type 0 where
  pub behind : Declared
  pub modules : p.modules ≡ ms
  pub rules : p.rules ≡ rs
  pub effects : p.foreigns ≡ es
  pub decls : after_modules (tables_of p) nothing_declared ms xs p.decls ≡ Some behind
  pub exports : p.exports ≡ exports_of o behind

-- What is computed is just that.
abbrev pub SourceIsRead : Type 0
SourceIsRead = (ms : List Words) (xs : List (List DeclTree)) (o : Option (List Words)) (rs : List Ru)
    (es : List (Words × Words)) (p : Pg) → is_source ms xs o rs es p ≡ true ↔ IsSource ms xs o rs es p
