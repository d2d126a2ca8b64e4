use Rattle.desugar_terms.proofs.Rolled.{locals_rolled}
use Rattle.desugar_terms.proofs.lists.locals_made.Goals as goal

pub returns : goal.returns
returns c = locals_rolled (record { items = c.args.items })
