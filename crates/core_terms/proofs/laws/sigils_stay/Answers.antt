use Rattle.core_terms.proofs.Stripping.{sigil_kept}
use Rattle.core_terms.proofs.laws.sigils_stay.Goals as goal

pub returns : goal.returns
returns c = sigil_kept
