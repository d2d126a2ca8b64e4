use Rattle.core_typing.proofs.AcceptedScopes.{accepted_have_types}
use Rattle.core_typing.proofs.laws.accepted_scopes_have_types.Goals as goal

pub returns : goal.returns
returns c = accepted_have_types
