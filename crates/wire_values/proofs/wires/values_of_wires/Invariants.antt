use Rattle.std.proofs.Common.{map, take, None}
use Rattle.table_rows.specs.View.{shapes_from, wires_from, shape_tree, wire_tree}
use Rattle.run_values.specs.View.{value_tree}
use Rattle.core_meaning.specs.Wired.{AreGiven}
use Rattle.wire_values.specs.Known.{known_by}
use Rattle.wire_values.proofs.wires.values_of_wires.Given as goal

abbrev pub invariant-loop-i : goal.invariant-loop-i
invariant-loop-i l = AreGiven (known_by l.program l.datatypes) (shapes_from (map shape_tree (take l.i l.shapes.items.items))) None
    (wires_from (map wire_tree (take l.i l.wires.items.items))) None (map value_tree l.values.items)
