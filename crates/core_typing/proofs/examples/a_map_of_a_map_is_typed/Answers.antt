use Rattle.core_typing.proofs.ExampleTypes.{map_of_map_typed}
use Rattle.core_typing.proofs.examples.a_map_of_a_map_is_typed.Goals as goal

pub returns : goal.returns
returns c = map_of_map_typed
