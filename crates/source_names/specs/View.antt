-- The plain data that the values of this crate are.
use Rattle.std.specs.Prelude.{ℕ, List, [], ◌∷◌, map, reverse}
use Rattle.con_terms.specs.View.{con_tree}
use Rattle.core_terms.specs.View.{foreign_view}
use Rattle.core_terms.specs.declared.program.FolderName.{FolderName}
use Rattle.core_terms.specs.declared.program.Program.{Program}
use Rattle.source_names.specs.Scopes.{Words, DeclaredValue, DeclaredType, DeclaredBuilder, Declared, Tables, Scope, capital}
use Rattle.source_names.specs.declared.builders.BasisPlace.{BasisPlace}
use Rattle.source_names.specs.declared.marked.KnownValue.{KnownValue}
use Rattle.source_names.specs.declared.marked.KnownType.{KnownType}
use Rattle.source_names.specs.declared.marked.KnownBuilder.{KnownBuilder}
use Rattle.source_names.specs.declared.known.Known.{Known}
use Rattle.source_names.specs.declared.here.Names.{Names}
use Rattle.source_names.specs.declared.here.Names.TheOpen.{Names-F}
use Rattle.source_names.specs.declared.here.Names.TheFolds.{fold-Names}
use Rattle.source_names.specs.declared.here.Here.{Here}

abbrev pub value_view : KnownValue → DeclaredValue
value_view v = record { home = v.home; name = v.name }

abbrev pub type_view : KnownType → DeclaredType
type_view t = record { home = t.home; name = t.name; means = con_tree t.means }

abbrev pub builder_view : KnownBuilder → DeclaredBuilder
builder_view b = record { home = b.home; name = b.name; datatype = b.datatype.number; index = b.index }

-- a constructor that is found: its datatype's symbol, and its place in it
abbrev pub builder_found : KnownBuilder → ℕ × ℕ
builder_found b = (b.datatype.number, b.index)

abbrev pub basis_found : BasisPlace → ℕ × ℕ
basis_found b = (b.datatype.number, b.index)

-- what is declared
abbrev pub declared_view : Known → Declared
declared_view k = record {
  modules = reverse (map capital k.modules.items);
  values = reverse (map value_view k.values.items);
  types = reverse (map type_view k.types.items);
  builders = reverse (map builder_view k.builders.items);
}

-- the tables of a program
abbrev pub folder_symbol : FolderName → ℕ
folder_symbol f = f.symbol.number

abbrev pub tables_view : Program → Tables
tables_view p = record {
  texts = p.names;
  effects = map foreign_view p.foreign.items.items;
  folders = map folder_symbol p.folders.items.items;
}

-- the names of binders
abbrev pub names_step : Names-F (List Words) → List Words
names_step Names-F.Nothing = []
names_step (Names-F.Under x rest) = x ∷ rest.value

abbrev pub names_view : Names → List Words
names_view = fold-Names (List Words) names_step

-- scopes
abbrev pub scope_view : Here → Scope
scope_view h = record {
  tables = tables_view h.program.now;
  declared = declared_view h.known.now;
  values = names_view h.values.value;
  variables = names_view h.variables.value;
}
