use Rattle.told_faults.proofs.Heads.{function_view, poly_view, guarded_view, record_view}
use Rattle.told_faults.proofs.laws.heads_are_read.Goals as goal

pub returns : goal.returns
returns c = λ n. (function_view n, poly_view n, guarded_view n, record_view n)
