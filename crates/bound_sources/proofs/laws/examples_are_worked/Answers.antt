use Rattle.bound_sources.proofs.Worked.{worked}
use Rattle.bound_sources.proofs.laws.examples_are_worked.Goals as goal

pub returns : goal.returns
returns c = worked
