use Rattle.core_typing.proofs.ExampleClash.{clash_of_program_is_told}
use Rattle.core_typing.proofs.examples.the_clash_of_a_program_is_told.Goals as goal

pub returns : goal.returns
returns c = clash_of_program_is_told
