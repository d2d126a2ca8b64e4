use Rattle.std.proofs.Common.{arith}
use Rattle.match_cover.specs.View.{rows_view}
use Rattle.match_cover.proofs.Adding.{asks_on}
use Rattle.match_cover.proofs.cover.asked_of.Goals as goal

pub loop-i-preserved : goal.loop-i-preserved
loop-i-preserved c =
    asks_on c.args.ps.now.items.items c.loop-i.i c.index.result.now (rows_view c.loop-i.asked.rows) (rows_view c.add.new.self.rows) c.loop-i.asked.depth c.add.new.self.depth
    (omega (arith, c.args.ps.now.items.ok.0)) c.index.ensures c.loop-i.invariant c.in_ok-add.ensures
