use Rattle.core_typing.proofs.SiteRoutes.{one_call_of_accepted}
use Rattle.core_typing.proofs.laws.one_call_of_an_accepted_program.Goals as goal

pub returns : goal.returns
returns c = one_call_of_accepted
