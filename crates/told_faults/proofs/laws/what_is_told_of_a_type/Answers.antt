use Rattle.told_faults.proofs.Lists.{types_tell}
use Rattle.told_faults.proofs.laws.what_is_told_of_a_type.Goals as goal

pub returns : goal.returns
returns c = types_tell
