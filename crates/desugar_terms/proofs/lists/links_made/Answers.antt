use Rattle.desugar_terms.proofs.Rolled.{links_rolled}
use Rattle.desugar_terms.proofs.lists.links_made.Goals as goal

pub returns : goal.returns
returns c = links_rolled (record { items = c.args.items })
