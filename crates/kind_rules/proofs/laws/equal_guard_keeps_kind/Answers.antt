use Rattle.kind_rules.proofs.Guarded.{kinded_under}
use Rattle.kind_rules.proofs.laws.equal_guard_keeps_kind.Goals as goal

pub returns : goal.returns
returns c = λ G a b m n c k h g x. kinded_under h g x
