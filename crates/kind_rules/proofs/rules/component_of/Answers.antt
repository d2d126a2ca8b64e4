use Rattle.std.proofs.Common.{arith}
use Rattle.kind_rules.proofs.Tuples.{no_component}
use Rattle.kind_rules.proofs.rules.component_of.Goals as goal

pub returns-in_ok-mismatch : goal.returns-in_ok-mismatch
returns-in_ok-mismatch c = no_component c.args.ks c.args.number _ _ (omega arith) c.in_ok-mismatch.ensures c.in_ok-wanted.ensures
