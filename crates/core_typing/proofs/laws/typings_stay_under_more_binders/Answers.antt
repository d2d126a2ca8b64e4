use Rattle.core_typing.proofs.ConsInTerms.{typings_stay_under_binders}
use Rattle.core_typing.proofs.laws.typings_stay_under_more_binders.Goals as goal

pub returns : goal.returns
returns c = typings_stay_under_binders
