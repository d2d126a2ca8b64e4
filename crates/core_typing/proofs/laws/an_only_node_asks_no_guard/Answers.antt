use Rattle.core_typing.proofs.PlainNodes.{only_node}
use Rattle.core_typing.proofs.laws.an_only_node_asks_no_guard.Goals as goal

pub returns : goal.returns
returns c = only_node
