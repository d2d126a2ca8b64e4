use Rattle.std.proofs.Common.{◌≡◌, map, take}
use Rattle.table_rows.specs.Shapes.{at_arguments}
use Rattle.table_rows.specs.View.{shape_tree}
use Rattle.wire_values.specs.Scoped.{closed_tree, scope_shapes}
use Rattle.wire_values.proofs.scoped.entered.Given as goal

abbrev pub invariant-loop-i : goal.invariant-loop-i
invariant-loop-i l = map closed_tree l.inner.items ≡ map (at_arguments (scope_shapes l.scope)) (map shape_tree (take l.i l.arguments.items.items))
