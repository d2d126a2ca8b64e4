use Rattle.type_makers.proofs.basis.eq_from_type.Goals as goal

pub returns : goal.returns
returns c =
    c.each_type.ensures _
    (c.arrow.ensures _ _
    (c.arrow-compares-2.ensures _ _ c.var-2.ensures
    (c.arrow-compares.ensures _ _ c.var.ensures c.bool_type.ensures))
    (c.basic_at.ensures _ c.var-3.ensures))
