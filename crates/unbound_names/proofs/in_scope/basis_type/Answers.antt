use Rattle.unbound_names.proofs.BasisNames.{type_is}
use Rattle.unbound_names.proofs.in_scope.basis_type.Goals as goal

pub returns : goal.returns
returns c = type_is c.type_named.result c.args.name.now c.type_named.ensures.some c.type_named.ensures.none
