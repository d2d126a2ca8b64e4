use Rattle.std.proofs.Common.{◌≤◌}
use Rattle.table_rows.specs.Weights.{weight}
use Rattle.table_rows.specs.View.{wire_tree}
use Rattle.table_rows.proofs.wire.Wire.into_fields.Given as goal

abbrev pub invariant-loop-self : goal.invariant-loop-self
invariant-loop-self l = weight (wire_tree l.self) ≤ weight (wire_tree l.fn.self)
