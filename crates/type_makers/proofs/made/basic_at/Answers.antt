use Rattle.type_makers.proofs.made.basic_at.Goals as goal

pub returns : goal.returns
returns c _ made_argument = c.applied.ensures _ _ c.basic.ensures made_argument
