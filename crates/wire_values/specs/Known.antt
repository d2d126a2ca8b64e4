-- What wires are read with.
use Rattle.std.specs.Prelude.{ℕ, List, map}
use Rattle.table_rows.specs.View.{datatypes_view}
use Rattle.table_rows.specs.declared.shape.Datatypes.{Datatypes}
use Rattle.core_terms.specs.Trees.{Dt}
use Rattle.core_terms.specs.View.{program_view}
use Rattle.core_terms.specs.declared.program.Program.{Program}
use Rattle.core_typing.specs.Entries.{all_datatypes}
use Rattle.core_meaning.specs.Wired.{Known}
use Rattle.wire_values.specs.declared.fitting.Fitting.{Fitting}

-- in a program whose routes have these datatypes
abbrev pub known_by : Program → Datatypes → Known
known_by p ds = record {
  names = p.names;
  datatypes = all_datatypes (program_view p);
  cases = datatypes_view ds;
}

abbrev pub known_in : Fitting → Known
known_in f = known_by f.program.now f.datatypes.now

-- the symbols of datatypes
abbrev pub symbols_in : List Dt → List ℕ
symbols_in ds = map (λ (d : Dt). d.symbol) ds
