use Rattle.xml_trees.proofs.Unique.{one_text}
use Rattle.xml_trees.proofs.laws.texts_are_unique.Goals as goal

pub returns : goal.returns
returns c = one_text
