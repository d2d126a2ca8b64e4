use Rattle.core_typing.proofs.FoundPrograms.{found_is_accepted, found_is_clear}
use Rattle.core_typing.proofs.laws.what_is_found_is_accepted.Goals as goal

pub returns-clause-accepted : goal.returns-clause-accepted
returns-clause-accepted c = found_is_accepted

pub returns-clause-clear : goal.returns-clause-clear
returns-clause-clear c = found_is_clear
