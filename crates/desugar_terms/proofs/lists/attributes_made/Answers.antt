use Rattle.desugar_terms.proofs.Rolled.{attributes_rolled}
use Rattle.desugar_terms.proofs.lists.attributes_made.Goals as goal

pub returns : goal.returns
returns c = attributes_rolled (record { items = c.args.items })
