use Rattle.xml_trees.proofs.Unique.{unique}
use Rattle.xml_trees.proofs.laws.pages_are_unique.Goals as goal

pub returns : goal.returns
returns c = unique
