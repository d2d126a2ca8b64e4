use Rattle.std.proofs.Common.{sym}
use Rattle.unbound_names.specs.InScope.{attributes}
use Rattle.unbound_names.proofs.BasisNames.{attribute_there, no_attribute_of}
use Rattle.unbound_names.proofs.in_scope.is_listed_attribute.Goals as goal

pub returns-in-Some : goal.returns-in-Some
returns-in-Some c = attribute_there _ _ c.in-Some.ensures.some

pub returns-in-None : goal.returns-in-None
returns-in-None c = sym (no_attribute_of _ attributes c.in-None.ensures.none)
