use Rattle.xml_trees.proofs.Normal.{is_normal}
use Rattle.xml_trees.proofs.laws.written_is_normal.Goals as goal

pub returns : goal.returns
returns c = is_normal
