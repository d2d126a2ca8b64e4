use Rattle.core_typing.proofs.LargerScopes.{typings_stay}
use Rattle.core_typing.proofs.laws.a_typing_stays_in_a_larger_scope.Goals as goal

pub returns : goal.returns
returns c = typings_stay
