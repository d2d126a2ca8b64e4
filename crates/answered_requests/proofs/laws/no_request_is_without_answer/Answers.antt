use Rattle.answered_requests.proofs.NotMissing.{none_is_without_answer}
use Rattle.answered_requests.proofs.laws.no_request_is_without_answer.Goals as goal

pub returns : goal.returns
returns c = none_is_without_answer
