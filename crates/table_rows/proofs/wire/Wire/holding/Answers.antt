use Rattle.std.proofs.Common.{◌≡◌, map, ap, arith}
use Rattle.table_rows.specs.View.{wire_tree}
use Rattle.table_rows.specs.Weights.{weights, around_weight}
use Rattle.table_rows.proofs.Weighing.{held_weight}
use Rattle.table_rows.proofs.wire.Wire.holding.Goals as goal

pub returns-in-Some : goal.returns-in-Some
returns-in-Some c =
    let same : around_weight c.args.fields ≡ weights (map wire_tree c.in-Some.items.items) = ap around_weight c.in-Some.is in
    omega (arith, held_weight c.in-Some.items, same)
