use Rattle.pattern_rules.proofs.Covering.{covered}
use Rattle.pattern_rules.proofs.laws.what_is_silent_is_covered.Goals as goal

pub returns : goal.returns
returns c = λ G p ps t h. covered G p ps t h
