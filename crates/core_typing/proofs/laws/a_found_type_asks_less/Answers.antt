use Rattle.core_typing.proofs.FoundLess.{found_asking_less}
use Rattle.core_typing.proofs.laws.a_found_type_asks_less.Goals as goal

pub returns : goal.returns
returns c = found_asking_less
