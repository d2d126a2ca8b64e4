use Rattle.std.proofs.Common.{rules, ◌+◌, ◌-◌}
use Rattle.page_walk.proofs.Placed.{one_put}
use Rattle.page_walk.proofs.links.write_fields.Goals as goal

pub loop-i-preserved : goal.loop-i-preserved
loop-i-preserved c =
    one_put c.in_ok-fields.fields.items c.loop-i.todo.items c.push.new.self.items c.index.result.now (_)
    (c.len-count.result - (c.loop-i.i + 1)) (c.len-count.result - c.loop-i.i)
    (search rules) (search rules) (search rules) c.loop-i.invariant (search rules)
