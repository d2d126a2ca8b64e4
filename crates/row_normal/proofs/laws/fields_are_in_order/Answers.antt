use Rattle.row_normal.proofs.NormalPieces.{fields_are_in_order}
use Rattle.row_normal.proofs.laws.fields_are_in_order.Goals as goal

pub returns : goal.returns
returns c = fields_are_in_order
