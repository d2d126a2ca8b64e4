use Rattle.core_typing.proofs.KindsStay.{constructors_substitute}
use Rattle.core_typing.proofs.laws.constructors_substitute.Goals as goal

pub returns : goal.returns
returns c = constructors_substitute
