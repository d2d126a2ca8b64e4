use Rattle.told_terms.proofs.LinksDecided.{links_decided}
use Rattle.told_terms.proofs.laws.links_are_decided.Goals as goal

pub returns : goal.returns
returns c = links_decided
