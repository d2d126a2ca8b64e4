use Rattle.guided_terms.proofs.ExampleCalls.{case_of_truth}
use Rattle.guided_terms.proofs.examples.a_case_has_the_type_of_its_branches.Goals as goal

pub returns : goal.returns
returns c = case_of_truth
