use Rattle.type_makers.proofs.basis.two_ordered.Goals as goal

pub returns : goal.returns
returns c = c.two_of.ensures _ _ (c.basic_at.ensures _ c.var.ensures) c.bool_type.ensures
