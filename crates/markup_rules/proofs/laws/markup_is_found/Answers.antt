use Rattle.markup_rules.proofs.Found.{markup_is_found}
use Rattle.markup_rules.proofs.laws.markup_is_found.Goals as goal

pub returns : goal.returns
returns c = markup_is_found
