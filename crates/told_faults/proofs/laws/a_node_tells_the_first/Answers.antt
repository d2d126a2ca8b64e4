use Rattle.told_faults.proofs.Verdict.{settled}
use Rattle.told_faults.proofs.laws.a_node_tells_the_first.Goals as goal

pub returns : goal.returns
returns c = settled
