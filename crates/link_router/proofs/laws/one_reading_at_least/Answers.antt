use Rattle.link_router.proofs.EachTarget.{each_target_is_read}
use Rattle.link_router.proofs.laws.one_reading_at_least.Goals as goal

pub returns : goal.returns
returns c = each_target_is_read
