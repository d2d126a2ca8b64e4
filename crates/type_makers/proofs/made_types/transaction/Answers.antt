use Rattle.type_makers.proofs.made_types.transaction.Goals as goal

pub returns : goal.returns
returns c _ made_t = c.basic_at.ensures _ made_t
