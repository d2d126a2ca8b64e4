use Rattle.core_typing.proofs.ExampleFaults.{more_fields_told}
use Rattle.core_typing.proofs.examples.more_fields_are_a_mismatch.Goals as goal

pub returns : goal.returns
returns c = more_fields_told
