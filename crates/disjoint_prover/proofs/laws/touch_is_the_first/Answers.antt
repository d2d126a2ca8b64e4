use Rattle.disjoint_prover.proofs.Touching.{touch_is_the_first}
use Rattle.disjoint_prover.proofs.laws.touch_is_the_first.Goals as goal

pub returns : goal.returns
returns c = touch_is_the_first
