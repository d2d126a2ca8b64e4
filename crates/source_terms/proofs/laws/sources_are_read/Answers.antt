use Rattle.source_terms.proofs.Sources.{source_is_read}
use Rattle.source_terms.proofs.laws.sources_are_read.Goals as goal

pub returns : goal.returns
returns c = source_is_read
