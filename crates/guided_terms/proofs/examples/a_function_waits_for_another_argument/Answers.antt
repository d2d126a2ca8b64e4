use Rattle.guided_terms.proofs.ExampleCalls.{function_that_waits}
use Rattle.guided_terms.proofs.examples.a_function_waits_for_another_argument.Goals as goal

pub returns : goal.returns
returns c = function_that_waits
