use Rattle.core_typing.proofs.OneSite.{one_site}
use Rattle.core_typing.proofs.laws.one_site_of_an_accepted_program.Goals as goal

pub returns : goal.returns
returns c = one_site
