use Rattle.core_typing.proofs.LargerScopes.{typings_ask_less}
use Rattle.core_typing.proofs.laws.a_typing_asks_less.Goals as goal

pub returns : goal.returns
returns c = typings_ask_less
