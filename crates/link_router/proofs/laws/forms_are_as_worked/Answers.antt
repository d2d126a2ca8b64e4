use Rattle.link_router.proofs.Bodies.{worked_forms}
use Rattle.link_router.proofs.laws.forms_are_as_worked.Goals as goal

pub returns : goal.returns
returns c = worked_forms
