use Rattle.guided_terms.proofs.ExampleCalls.{text_in_body}
use Rattle.guided_terms.proofs.examples.a_text_stands_in_a_body.Goals as goal

pub returns : goal.returns
returns c = text_in_body
