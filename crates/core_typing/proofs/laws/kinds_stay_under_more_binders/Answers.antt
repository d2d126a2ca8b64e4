use Rattle.core_typing.proofs.KindsStay.{kinds_stay}
use Rattle.core_typing.proofs.laws.kinds_stay_under_more_binders.Goals as goal

pub returns : goal.returns
returns c = kinds_stay
