use Rattle.core_typing.proofs.KindsStay.{kinds_substitute}
use Rattle.core_typing.proofs.laws.kinds_substitute.Goals as goal

pub returns : goal.returns
returns c = kinds_substitute
