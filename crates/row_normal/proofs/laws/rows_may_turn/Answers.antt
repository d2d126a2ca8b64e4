use Rattle.row_normal.proofs.Turned.{rows_may_turn}
use Rattle.row_normal.proofs.laws.rows_may_turn.Goals as goal

pub returns : goal.returns
returns c = rows_may_turn
