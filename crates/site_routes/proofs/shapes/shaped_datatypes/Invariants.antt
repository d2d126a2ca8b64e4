use Rattle.std.proofs.Common.{map, take}
use Rattle.core_terms.specs.View.{datatype_view}
use Rattle.core_typing.specs.Entries.{DatatypesShaped}
use Rattle.table_rows.specs.View as rows
use Rattle.site_routes.proofs.shapes.shaped_datatypes.Given as goal

abbrev pub invariant-loop-i : goal.invariant-loop-i
invariant-loop-i l =
    DatatypesShaped l.names (map datatype_view l.datatypes.items) (map datatype_view (take l.i l.datatypes.items)) (map rows.datatype_view l.items.items)
