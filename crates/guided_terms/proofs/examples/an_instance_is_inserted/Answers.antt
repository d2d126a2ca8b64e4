use Rattle.guided_terms.proofs.ExampleCalls.{show_of_three}
use Rattle.guided_terms.proofs.examples.an_instance_is_inserted.Goals as goal

pub returns : goal.returns
returns c = show_of_three
