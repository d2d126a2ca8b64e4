use Rattle.row_normal.proofs.NormalStays.{nf_stays}
use Rattle.row_normal.proofs.laws.normal_forms_stay.Goals as goal

pub returns : goal.returns
returns c = nf_stays
