use Rattle.shaped_values.proofs.Names.{normals_hold}
use Rattle.shaped_values.proofs.laws.normal_names_hold.Goals as goal

pub returns : goal.returns
returns c = normals_hold
