use Rattle.std.proofs.Common.{◌+◌, ◌≤◌, map}
use Rattle.table_rows.specs.Weights.{weights, around_weight}
use Rattle.table_rows.specs.View.{wire_tree}
use Rattle.table_rows.proofs.wire.Wire.drop.Given as goal

abbrev pub invariant-downwards : goal.invariant-downwards
invariant-downwards l = weights (map wire_tree l.current.items) + around_weight l.around ≤ weights (map wire_tree l.initial.current.items) + around_weight l.initial.around

abbrev pub decreases-downwards : goal.decreases-downwards
decreases-downwards l = weights (map wire_tree l.current.items)

abbrev pub decreases-upwards : goal.decreases-upwards
decreases-upwards l = weights (map wire_tree l.current.items) + around_weight l.around
