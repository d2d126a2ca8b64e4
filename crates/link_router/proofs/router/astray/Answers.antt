use Rattle.link_router.proofs.Answering.{other_refused, none_refused}
use Rattle.link_router.proofs.router.astray.Goals as goal

pub returns-in-Some : goal.returns-in-Some
returns-in-Some c target e n = other_refused _ _ target _ _ _ _ e n c.in-Some.ensures.some

pub returns-in-None : goal.returns-in-None
returns-in-None c target e n = none_refused _ _ target _ e n c.in-None.ensures.none
