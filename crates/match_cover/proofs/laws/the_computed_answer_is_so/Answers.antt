use Rattle.match_cover.proofs.Answered.{answered}
use Rattle.match_cover.proofs.laws.the_computed_answer_is_so.Goals as goal

pub returns : goal.returns
returns c = answered
