use Rattle.row_normal.proofs.Refused.{refusals_have_a_cause}
use Rattle.row_normal.proofs.laws.refusals_have_a_cause.Goals as goal

pub returns : goal.returns
returns c = refusals_have_a_cause
