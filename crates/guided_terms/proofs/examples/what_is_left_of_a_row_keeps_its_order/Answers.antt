use Rattle.guided_terms.proofs.ExampleRows.{rest_keeps_its_order}
use Rattle.guided_terms.proofs.examples.what_is_left_of_a_row_keeps_its_order.Goals as goal

pub returns : goal.returns
returns c = rest_keeps_its_order
