use Rattle.core_typing.proofs.ExampleFaults.{clash_told}
use Rattle.core_typing.proofs.examples.same_names_clash.Goals as goal

pub returns : goal.returns
returns c = clash_told
