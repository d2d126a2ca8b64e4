use Rattle.judgements.proofs.OwnForms.{one}
use Rattle.judgements.proofs.settled.is_one_form.Goals as goal

pub returns-then-same_con-clause-one : goal.returns-then-same_con-clause-one
returns-then-same_con-clause-one c _ = one _ _ _ c.same_con.ensures c.if-same_con.true
