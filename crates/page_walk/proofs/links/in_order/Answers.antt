use Rattle.std.proofs.Common.{rules, length, ◌+◌, ◌-◌}
use Rattle.page_walk.proofs.Placed.{one_sorted}
use Rattle.page_walk.proofs.links.in_order.Goals as goal

pub loop-i-preserved : goal.loop-i-preserved
loop-i-preserved c =
    one_sorted c.args.program.now.names c.args.slots.now (length c.args.slots.now - (c.loop-i.i + 1)) (length c.args.slots.now - c.loop-i.i)
    c.index-slots-count.result c.in-Some.name.now c.loop-i.fields.items c.in_ok-fields.fields.items
    (search rules) (search rules) (search rules) (search rules) c.loop-i.invariant (search rules)
