use Rattle.core_typing.proofs.ConsInTerms.{typings_substitute}
use Rattle.core_typing.proofs.laws.typings_substitute.Goals as goal

pub returns : goal.returns
returns c = typings_substitute
