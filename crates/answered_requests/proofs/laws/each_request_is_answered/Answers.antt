use Rattle.answered_requests.proofs.Answered.{each_request}
use Rattle.answered_requests.proofs.laws.each_request_is_answered.Goals as goal

pub returns : goal.returns
returns c = each_request
