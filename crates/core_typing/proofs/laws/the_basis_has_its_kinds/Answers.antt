use Rattle.core_typing.proofs.BasisKinds.{basis_kind, named_kinded}
use Rattle.core_typing.proofs.TypeKinds.{basics}
use Rattle.core_typing.proofs.laws.the_basis_has_its_kinds.Goals as goal

pub returns : goal.returns
returns s = λ G h. (basis_kind (basics h), named_kinded (basics h))
