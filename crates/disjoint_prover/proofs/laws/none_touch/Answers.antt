use Rattle.disjoint_prover.proofs.Touching.{none_touch}
use Rattle.disjoint_prover.proofs.laws.none_touch.Goals as goal

pub returns : goal.returns
returns c = none_touch
