use Rattle.type_makers.proofs.made_types.query.Goals as goal

pub returns : goal.returns
returns c _ _ made_tables made_results = c.applied.ensures _ _ (c.basic_at.ensures _ made_tables) made_results
