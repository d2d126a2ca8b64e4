use Rattle.guided_terms.proofs.ExampleCalls.{id_of_three}
use Rattle.guided_terms.proofs.examples.a_constructor_is_inserted.Goals as goal

pub returns : goal.returns
returns c = id_of_three
