use Rattle.type_makers.proofs.basis.join_type.Goals as goal

pub returns : goal.returns
returns c =
    c.each_context.ensures _
    (c.each_row-2.ensures _
    (c.each_row-body.ensures _
    (c.each_row.ensures _
    (c.guarded-body-2.ensures _ _ _ c.var-3.ensures c.var-4.ensures
    (c.guarded-body.ensures _ _ _ c.var.ensures c.var-2.ensures c.joins.ensures)))))
