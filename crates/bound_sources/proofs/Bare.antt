-- Scopes of which only the names are known.
use Rattle.std.proofs.Common.{◌≡◌, List, [], ◌∷◌, map, refl}
use Rattle.con_terms.specs.Trees.{unit_con}
use Rattle.source_names.specs.Scopes.{Words, DeclaredType, DeclaredBuilder, Declared, Scope, under_value, under_values}
use Rattle.unbound_names.specs.InScope.{tables_with}

-- what is declared, where each type means `()`, and each datatype has the symbol 0
abbrev pub bare_type : DeclaredType → DeclaredType
bare_type t = record { home = t.home; name = t.name; means = unit_con }

abbrev pub bare_builder : DeclaredBuilder → DeclaredBuilder
bare_builder b = record { home = b.home; name = b.name; datatype = 0; index = 0 }

abbrev pub bare_declared : Declared → Declared
bare_declared d = record {
  modules = d.modules;
  values = d.values;
  types = map bare_type d.types;
  builders = map bare_builder d.builders;
}

-- the scope where only the foreign effects of a program are known, and what is declared so
abbrev pub bare_scope : Scope → Scope
bare_scope s = record {
  tables = tables_with s.tables.effects;
  declared = bare_declared s.declared;
  values = s.values;
  variables = s.variables;
}

pub bare_values : (xs : List Words) (s : Scope) → bare_scope (under_values xs s) ≡ under_values xs (bare_scope s)
bare_values [] s = refl
bare_values (x ∷ xs) s = bare_values xs (under_value x s)
