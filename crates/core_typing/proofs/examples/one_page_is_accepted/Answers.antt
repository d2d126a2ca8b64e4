use Rattle.core_typing.proofs.OnePage.{accepted}
use Rattle.core_typing.proofs.examples.one_page_is_accepted.Goals as goal

pub returns : goal.returns
returns c = accepted
