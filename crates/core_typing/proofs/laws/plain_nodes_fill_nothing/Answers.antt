use Rattle.core_typing.proofs.PlainNodes.{plain_nodes_fill_nothing}
use Rattle.core_typing.proofs.laws.plain_nodes_fill_nothing.Goals as goal

pub returns : goal.returns
returns c = plain_nodes_fill_nothing
