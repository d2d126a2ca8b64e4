use Rattle.told_terms.proofs.CoverDecided.{cover_decided}
use Rattle.told_terms.proofs.laws.cover_is_decided.Goals as goal

pub returns : goal.returns
returns c = cover_decided
