use Rattle.shaped_values.proofs.Worked.{worked}
use Rattle.shaped_values.proofs.laws.examples_are_values.Goals as goal

pub returns : goal.returns
returns c = worked
