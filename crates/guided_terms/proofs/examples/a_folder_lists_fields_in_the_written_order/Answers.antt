use Rattle.guided_terms.proofs.ExampleFolders.{folder_in_written_order}
use Rattle.guided_terms.proofs.examples.a_folder_lists_fields_in_the_written_order.Goals as goal

pub returns : goal.returns
returns c = folder_in_written_order
