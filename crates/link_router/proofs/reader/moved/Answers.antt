use Rattle.link_router.proofs.Onward.{popped_whole, has_is, handed}
use Rattle.link_router.proofs.reader.moved.Goals as goal

pub returns-in-None-clause-ok : goal.returns-in-None-clause-ok
returns-in-None-clause-ok c = has_is _ _ _ _ _ _ c.in-Has.is (popped_whole c.in-None.ensures.none)

pub returns-in-Ok-handed_up-clause-ok : goal.returns-in-Ok-handed_up-clause-ok
returns-in-Ok-handed_up-clause-ok c = handed _ _ _ _ _ _ _ _ c.in-Has.is c.in-Some.ensures.some (c.in-Ok-handed_up.ensures _ _)
