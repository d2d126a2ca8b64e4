use Rattle.answered_requests.proofs.NotMissing.{routes_are_not_missing}
use Rattle.answered_requests.proofs.laws.routes_are_not_missing.Goals as goal

pub returns : goal.returns
returns c = routes_are_not_missing
