use Rattle.core_typing.proofs.ConsInTerms.{constructors_substitute_in_terms}
use Rattle.core_typing.proofs.laws.constructors_substitute_in_terms.Goals as goal

pub returns : goal.returns
returns c = constructors_substitute_in_terms
