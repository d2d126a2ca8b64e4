use Rattle.type_makers.proofs.basis.txt_type.Goals as goal

pub returns : goal.returns
returns c =
    c.each_type.ensures _
    (c.each_context.ensures _
    (c.each_row.ensures _
    (c.arrow-body.ensures _ _ (c.basic_at.ensures _ c.var.ensures) (c.for_leaf.ensures _ c.var-2.ensures))))
