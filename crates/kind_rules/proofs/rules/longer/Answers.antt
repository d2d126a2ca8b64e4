use Rattle.std.proofs.Common.{arith}
use Rattle.kind_rules.proofs.Tuples.{longer_is}
use Rattle.kind_rules.proofs.rules.longer.Goals as goal

pub returns : goal.returns
returns c = longer_is c.args.ks.now c.push-2.new.self c.loop-i.items.items c.loop-i.i (omega arith) c.loop-i.invariant c.in_ok-push-2.ensures.items
