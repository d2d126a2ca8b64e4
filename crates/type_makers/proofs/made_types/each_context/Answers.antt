use Rattle.type_makers.proofs.made_types.each_context.Goals as goal

pub returns : goal.returns
returns c _ made_body = c.poly.ensures _ _ (c.row_kind.ensures _ c.units_kind.ensures) made_body
