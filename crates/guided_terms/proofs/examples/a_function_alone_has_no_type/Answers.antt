use Rattle.guided_terms.proofs.ExampleCalls.{function_is_open}
use Rattle.guided_terms.proofs.examples.a_function_alone_has_no_type.Goals as goal

pub returns : goal.returns
returns c = function_is_open
