use Rattle.row_normal.proofs.NormalEqual.{nf_equal}
use Rattle.row_normal.proofs.laws.normal_forms_are_equal.Goals as goal

pub returns : goal.returns
returns c = nf_equal
