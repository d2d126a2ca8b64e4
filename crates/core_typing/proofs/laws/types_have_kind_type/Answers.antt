use Rattle.core_typing.proofs.TypeKinds.{type_kind}
use Rattle.core_typing.proofs.laws.types_have_kind_type.Goals as goal

pub returns : goal.returns
returns c = λ G e t h x. type_kind h x
