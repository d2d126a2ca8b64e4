use Rattle.kind_rules.proofs.OneKind.{one_kind}
use Rattle.kind_rules.proofs.laws.one_kind_only.Goals as goal

pub returns : goal.returns
returns c = λ G c k l h g. one_kind h g
