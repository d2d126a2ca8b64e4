-- The plain data that the values of this crate are.
use Rattle.std.specs.Prelude.{map}
use Rattle.core_terms.specs.View.{foreign_view}
use Rattle.source_names.specs.Scopes.{Scope}
use Rattle.source_names.specs.View.{declared_view, names_view}
use Rattle.unbound_names.specs.Asked.{Ask}
use Rattle.unbound_names.specs.InScope.{tables_with}
use Rattle.unbound_names.specs.declared.around.Around.{Around}
use Rattle.unbound_names.specs.declared.asked.Asked.{Asked}

abbrev pub ask_view : Asked → Ask
ask_view a = record { at = a.at; written = a.written.now }

abbrev pub around_view : Around → Scope
around_view a = record {
  tables = tables_with (map foreign_view a.effects.now.items.items);
  declared = declared_view a.known.now;
  values = names_view a.values.value;
  variables = names_view a.variables.value;
}
