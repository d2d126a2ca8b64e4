use Rattle.link_router.proofs.OneCall.{one_call}
use Rattle.link_router.proofs.laws.one_call_at_most.Goals as goal

pub returns : goal.returns
returns c = one_call
