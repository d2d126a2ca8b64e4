use Rattle.row_normal.proofs.Swapped.{cat_swaps_ordered}
use Rattle.row_normal.proofs.laws.order_of_writing.Goals as goal

pub returns : goal.returns
returns c = cat_swaps_ordered
