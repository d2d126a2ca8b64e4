use Rattle.match_cover.proofs.Fields.{pairs_on}
use Rattle.match_cover.proofs.seen.add_pairs.Goals as goal

pub loop-i-preserved : goal.loop-i-preserved
loop-i-preserved c = pairs_on _ _ _ _ _ c.loop-i.i _ c.at.ensures c.in_ok-part_of.ensures c.in_ok-push.ensures.items c.loop-i.invariant
