use Rattle.type_makers.proofs.made_types.xml.Goals as goal

pub returns : goal.returns
returns c _ _ _ made_context made_uses made_fills =
    c.applied-2.ensures _ _ (c.applied.ensures _ _ (c.basic_at-at_context.ensures _ made_context) made_uses)
    made_fills
