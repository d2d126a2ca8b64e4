use Rattle.std.proofs.Common.{◌≡◌}
use Rattle.con_terms.proofs.SameKinds.{kd_eq_decides}
use Rattle.con_terms.proofs.kind.same_kind.Goals as goal

pub returns-clause-exact : goal.returns-clause-exact
returns-clause-exact c = rw c.equal.ensures (kd_eq_decides _ _)
