use Rattle.core_typing.proofs.ExampleTypes.{guard_holds}
use Rattle.core_typing.proofs.examples.a_guard_holds_by_assumption.Goals as goal

pub returns : goal.returns
returns c = guard_holds
