use Rattle.core_typing.proofs.ExampleFields.{fields_at_names_are_covered}
use Rattle.core_typing.proofs.examples.fields_at_names_are_covered.Goals as goal

pub returns : goal.returns
returns c = fields_at_names_are_covered
