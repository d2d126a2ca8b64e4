use Rattle.told_terms.proofs.Main.{told}
use Rattle.told_terms.proofs.laws.judged_is_told.Goals as goal

pub returns : goal.returns
returns c = record { told = told }
