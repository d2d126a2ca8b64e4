use Rattle.told_terms.proofs.Decided.{found_or_failing, silent_found}
use Rattle.told_terms.proofs.laws.each_term_is_found_or_fails.Goals as goal

pub returns-clause-found : goal.returns-clause-found
returns-clause-found c = found_or_failing

pub returns-clause-silent : goal.returns-clause-silent
returns-clause-silent c = silent_found
