use Rattle.std.proofs.Common.{[]}
use Rattle.table_rows.specs.View.{shape_tree, wire_tree}
use Rattle.wire_values.specs.Amid.{LeadsTo, wants}
use Rattle.wire_values.specs.Known.{known_in}
use Rattle.wire_values.specs.Scoped.{amid, stack_view}
use Rattle.wire_values.proofs.wires.value_of.Given as goal

abbrev pub invariant-loop : goal.invariant-loop
invariant-loop l = LeadsTo (known_in l.fitting) (wants [] (shape_tree l.shape) (wire_tree l.wire)) (amid l.step (stack_view l.stack))
