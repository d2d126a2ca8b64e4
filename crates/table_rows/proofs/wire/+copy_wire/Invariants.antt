use Rattle.std.proofs.Common.{◌≡◌, map, take}
use Rattle.table_rows.specs.View.{wire_tree}
use Rattle.table_rows.proofs.wire.+copy_wire.Given as goal

abbrev pub invariant-copy_wires-loop-i : goal.invariant-copy_wires-loop-i
invariant-copy_wires-loop-i l = map wire_tree l.items.items ≡ map wire_tree (take l.i l.wires.items.items)
