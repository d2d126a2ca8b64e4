use Rattle.link_router.proofs.OneRefusal.{calls_are_not_refused, one_refusal}
use Rattle.link_router.proofs.laws.one_reading_at_most.Goals as goal

pub returns-clause-not_both : goal.returns-clause-not_both
returns-clause-not_both c = calls_are_not_refused

pub returns-clause-one_refusal : goal.returns-clause-one_refusal
returns-clause-one_refusal c routes post target x y n h k = one_refusal n h k
