use Rattle.core_typing.proofs.Silent.{found_tells_nothing}
use Rattle.core_typing.proofs.laws.what_is_found_tells_nothing.Goals as goal

pub returns : goal.returns
returns c = found_tells_nothing
