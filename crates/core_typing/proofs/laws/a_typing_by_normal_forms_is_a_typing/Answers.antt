use Rattle.core_typing.proofs.Founded.{found_typed}
use Rattle.core_typing.proofs.laws.a_typing_by_normal_forms_is_a_typing.Goals as goal

pub returns : goal.returns
returns c = ((λ G e t h. found_typed h), (λ G e t h. found_typed h))
