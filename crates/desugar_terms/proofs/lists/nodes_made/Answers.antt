use Rattle.desugar_terms.proofs.Rolled.{nodes_rolled}
use Rattle.desugar_terms.proofs.lists.nodes_made.Goals as goal

pub returns : goal.returns
returns c = nodes_rolled (record { items = c.args.items })
