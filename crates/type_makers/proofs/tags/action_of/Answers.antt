use Rattle.std.proofs.Common.{refl}
use Rattle.type_makers.proofs.tags.action_of.Goals as goal

pub returns : goal.returns
returns c = c.arrow.ensures _ _ (c.record.ensures _ refl) c.page_action.ensures
