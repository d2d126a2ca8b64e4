use Rattle.core_typing.proofs.ExampleSequence.{sequence_told}
use Rattle.core_typing.proofs.examples.a_sequence_is_told.Goals as goal

pub returns : goal.returns
returns c = sequence_told
