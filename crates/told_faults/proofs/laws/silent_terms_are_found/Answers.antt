use Rattle.told_faults.proofs.Silent.{silent_is_found}
use Rattle.told_faults.proofs.laws.silent_terms_are_found.Goals as goal

pub returns : goal.returns
returns c = silent_is_found
