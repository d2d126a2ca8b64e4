use Rattle.told_faults.proofs.Lists.{two_faults}
use Rattle.told_faults.proofs.laws.of_two_sets_of_faults_the_earlier_counts.Goals as goal

pub returns : goal.returns
returns c = two_faults
