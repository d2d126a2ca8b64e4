use Rattle.std.proofs.Common.{◌≡◌, map, drop}
use Rattle.core_terms.specs.View.{constructor_view, datatype_view}
use Rattle.table_rows.specs.View.{case_view}
use Rattle.site_routes.specs.Shaping.{cases_by, nested, shaped}
use Rattle.site_routes.proofs.Steps.{behind}
use Rattle.site_routes.proofs.shapes.cases_of.Given as goal

abbrev pub invariant-loop-j : goal.invariant-loop-j
invariant-loop-j l =
    behind (map case_view l.cases.items) (cases_by (shaped nested l.names (map datatype_view l.datatypes.items) l.parameters) l.names (map constructor_view (drop l.j l.constructors.items.items)))
    ≡ cases_by (shaped nested l.names (map datatype_view l.datatypes.items) l.parameters) l.names (map constructor_view l.constructors.items.items)
