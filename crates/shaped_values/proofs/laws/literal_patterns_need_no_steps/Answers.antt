use Rattle.shaped_values.proofs.Suffice.{suffice}
use Rattle.shaped_values.proofs.laws.literal_patterns_need_no_steps.Goals as goal

pub returns : goal.returns
returns c = suffice
