use Rattle.row_normal.specs.View.{normal_tree}
use Rattle.disjoint_prover.specs.View.{guard_list}
use Rattle.disjoint_prover.proofs.Answered.{gives_along, gives_apart, gives_kept, gives_touch}
use Rattle.disjoint_prover.proofs.prover.disjoint.Goals as goal

pub returns-clause-apart : goal.returns-clause-apart
returns-clause-apart c =
    gives_apart c.check.result (guard_list c.args.g.now) (normal_tree c.args.left.now) (normal_tree c.args.right.now)
    (gives_along c.check.result (guard_list c.args.g.now) _ _ _ _ c.con.ensures.same c.con-2.ensures.same c.check.ensures)

pub returns-clause-kept : goal.returns-clause-kept
returns-clause-kept c =
    gives_kept c.check.result (guard_list c.args.g.now) (normal_tree c.args.left.now) (normal_tree c.args.right.now)
    (gives_along c.check.result (guard_list c.args.g.now) _ _ _ _ c.con.ensures.same c.con-2.ensures.same c.check.ensures)

pub returns-clause-touch : goal.returns-clause-touch
returns-clause-touch c =
    gives_touch c.check.result (guard_list c.args.g.now) (normal_tree c.args.left.now) (normal_tree c.args.right.now)
    (gives_along c.check.result (guard_list c.args.g.now) _ _ _ _ c.con.ensures.same c.con-2.ensures.same c.check.ensures)
