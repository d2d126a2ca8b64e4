use Rattle.shaped_values.proofs.Names.{literals_hold}
use Rattle.shaped_values.proofs.laws.literal_names_hold.Goals as goal

pub returns : goal.returns
returns c = literals_hold
