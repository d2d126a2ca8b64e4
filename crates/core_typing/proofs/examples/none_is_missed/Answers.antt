use Rattle.core_typing.proofs.ExampleCover.{none_told}
use Rattle.core_typing.proofs.examples.none_is_missed.Goals as goal

pub returns : goal.returns
returns c = none_told
