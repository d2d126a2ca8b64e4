use Rattle.link_router.proofs.Bodies.{one_form_at_most, each_body_is_form}
use Rattle.link_router.proofs.laws.a_body_is_one_form.Goals as goal

pub returns-clause-at_most : goal.returns-clause-at_most
returns-clause-at_most c = one_form_at_most

pub returns-clause-at_least : goal.returns-clause-at_least
returns-clause-at_least c = each_body_is_form
