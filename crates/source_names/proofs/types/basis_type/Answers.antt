use Rattle.source_names.proofs.BasisTypes.{type_is}
use Rattle.source_names.proofs.types.basis_type.Goals as goal

pub returns : goal.returns
returns c = type_is c.type_named.result c.args.name.now c.type_named.ensures.some c.type_named.ensures.none
