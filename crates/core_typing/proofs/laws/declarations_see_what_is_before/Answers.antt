use Rattle.core_typing.proofs.SeenBefore.{see_what_is_before}
use Rattle.core_typing.proofs.laws.declarations_see_what_is_before.Goals as goal

pub returns : goal.returns
returns c = see_what_is_before
