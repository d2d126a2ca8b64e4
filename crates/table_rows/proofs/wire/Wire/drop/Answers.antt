use Rattle.std.proofs.Common.{◌≡◌, map, ap, arith}
use Rattle.table_rows.specs.View.{wire_tree}
use Rattle.table_rows.specs.Weights.{weights, around_weight}
use Rattle.table_rows.proofs.Weighing.{weighs, items_more, taken_weight}
use Rattle.table_rows.proofs.wire.Wire.drop.Goals as goal

pub downwards-smaller-in-Some-into_fields : goal.downwards-smaller-in-Some-into_fields
downwards-smaller-in-Some-into_fields c =
    omega (arith, items_more c.downwards.current.items c.pop.new.self.items c.in-Some-pop.field c.in-Some-pop.ensures.items, c.in-Some-into_fields.ensures)

pub downwards-preserved-in-Some-into_fields : goal.downwards-preserved-in-Some-into_fields
downwards-preserved-in-Some-into_fields c =
    omega (
      arith,
      c.downwards.invariant,
      items_more c.downwards.current.items c.pop.new.self.items c.in-Some-pop.field c.in-Some-pop.ensures.items,
      items_more c.push.new.self.items c.pop.new.self.items c.holding.result c.in-Ok.ensures.items,
      c.in-Some-into_fields.ensures,
      c.holding.ensures,
    )

pub downwards-smaller : goal.downwards-smaller
downwards-smaller c =
    omega (arith, items_more c.downwards.current.items c.pop.new.self.items c.in-Some-pop.field c.in-Some-pop.ensures.items, weighs (wire_tree c.in-Some-pop.field))

pub downwards-preserved : goal.downwards-preserved
downwards-preserved c =
    omega (arith, c.downwards.invariant, items_more c.downwards.current.items c.pop.new.self.items c.in-Some-pop.field c.in-Some-pop.ensures.items)

pub upwards-smaller : goal.upwards-smaller
upwards-smaller c =
    let around : around_weight c.downwards.around ≡ weights (map wire_tree c.in-Some-around.outer.items) = ap around_weight c.in-Some-around.is in
    omega (
      arith,
      c.downwards.invariant,
      around,
      items_more c.in-Some-around.outer.items c.pop-in-upwards.new.self.items c.in-Some-pop-2.outermost c.in-Some-pop-2.ensures.items,
      taken_weight c.into_fields-around.result (wire_tree c.in-Some-pop-2.outermost) c.into_fields-around.ensures,
    )
