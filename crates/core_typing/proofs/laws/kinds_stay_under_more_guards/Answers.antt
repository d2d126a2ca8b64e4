use Rattle.core_typing.proofs.KindsStay.{kinds_stay_with_guards}
use Rattle.core_typing.proofs.laws.kinds_stay_under_more_guards.Goals as goal

pub returns : goal.returns
returns c = kinds_stay_with_guards
