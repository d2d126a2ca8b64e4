use Rattle.row_normal.proofs.NormalPieces.{pieces_are_in_order}
use Rattle.row_normal.proofs.laws.pieces_are_in_order.Goals as goal

pub returns : goal.returns
returns c = pieces_are_in_order
