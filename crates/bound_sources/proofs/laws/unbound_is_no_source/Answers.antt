use Rattle.bound_sources.proofs.Modules.{unbound_is_none}
use Rattle.bound_sources.proofs.laws.unbound_is_no_source.Goals as goal

pub returns : goal.returns
returns c = unbound_is_none
