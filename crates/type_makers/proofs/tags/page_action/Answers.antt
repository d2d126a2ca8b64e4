use Rattle.type_makers.proofs.tags.page_action.Goals as goal

pub returns : goal.returns
returns c = c.transaction.ensures _ c.page_type.ensures
