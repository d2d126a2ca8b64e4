use Rattle.std.proofs.Common.{map, length}
use Rattle.table_rows.specs.Wires.{wire_list}
use Rattle.table_rows.specs.View.{wires_tree, shapes_from, shape_tree, arguments_tree, datatypes_view}
use Rattle.link_router.proofs.Arguments.{AllLead}
use Rattle.link_router.proofs.reader.read_arguments.Given as goal

abbrev pub invariant-loop-first : goal.invariant-loop-first
invariant-loop-first l = AllLead (datatypes_view l.datatypes) (arguments_tree l.arguments) l.initial.pieces (wire_list (wires_tree l.wires)) (shapes_from (map shape_tree l.rest)) l.pieces

abbrev pub decreases-loop-first : goal.decreases-loop-first
decreases-loop-first l = length l.rest
