use Rattle.core_typing.proofs.Decided.{found_or_fails}
use Rattle.core_typing.proofs.laws.what_is_not_found_has_a_fault.Goals as goal

pub returns : goal.returns
returns c = found_or_fails
