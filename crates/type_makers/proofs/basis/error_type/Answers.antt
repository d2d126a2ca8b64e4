use Rattle.type_makers.proofs.basis.error_type.Goals as goal

pub returns : goal.returns
returns c = c.each_type.ensures _ (c.arrow.ensures _ _ c.body_type.ensures c.var.ensures)
