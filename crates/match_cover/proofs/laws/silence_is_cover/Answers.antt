use Rattle.match_cover.proofs.Reasons.{none_covers}
use Rattle.match_cover.proofs.laws.silence_is_cover.Goals as goal

pub returns : goal.returns
returns c = λ ds ps t h. none_covers ds ps t h
