use Rattle.xml_trees.proofs.Pieces.{are_pages}
use Rattle.xml_trees.proofs.laws.pieces_are_pages.Goals as goal

pub returns : goal.returns
returns c = are_pages
