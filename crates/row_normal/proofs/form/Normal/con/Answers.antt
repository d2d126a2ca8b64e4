use Rattle.row_normal.proofs.NormalStays.{normal_in_order, told_normal}
use Rattle.row_normal.proofs.form.Normal.con.Goals as goal

pub returns-clause-own : goal.returns-clause-own
returns-clause-own c = told_normal _ c.args.self.now.own

pub returns-clause-order : goal.returns-clause-order
returns-clause-order c = normal_in_order _ (told_normal _ c.args.self.now.own)
