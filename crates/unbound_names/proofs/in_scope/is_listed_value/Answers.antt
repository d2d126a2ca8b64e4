use Rattle.std.proofs.Common.{sym}
use Rattle.unbound_names.specs.InScope.{basis_values}
use Rattle.unbound_names.proofs.BasisNames.{value_there, no_value_of}
use Rattle.unbound_names.proofs.in_scope.is_listed_value.Goals as goal

pub returns-in-Some : goal.returns-in-Some
returns-in-Some c = value_there _ _ c.in-Some.ensures.some

pub returns-in-None : goal.returns-in-None
returns-in-None c = sym (no_value_of _ basis_values c.in-None.ensures.none)
