use Rattle.row_normal.proofs.Stable.{ordered_twice}
use Rattle.row_normal.proofs.laws.order_stays.Goals as goal

pub returns : goal.returns
returns c = ordered_twice
