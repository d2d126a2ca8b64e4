use Rattle.core_typing.proofs.ExampleElements.{link_not_carried, action_not_carried, context_kinded}
use Rattle.core_typing.proofs.examples.what_elements_break_is_told.Goals as goal

pub returns-clause-link : goal.returns-clause-link
returns-clause-link c = link_not_carried

pub returns-clause-action : goal.returns-clause-action
returns-clause-action c = action_not_carried

pub returns-clause-context : goal.returns-clause-context
returns-clause-context c = context_kinded
