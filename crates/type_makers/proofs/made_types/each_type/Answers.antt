use Rattle.type_makers.proofs.made_types.each_type.Goals as goal

pub returns : goal.returns
returns c _ made_body = c.poly.ensures _ _ c.types_kind.ensures made_body
