use Rattle.type_makers.proofs.basis.bind_type.Goals as goal

pub returns : goal.returns
returns c =
    c.each_type-2.ensures _
    (c.each_type.ensures _
    (c.arrow-body-2.ensures _ _ (c.transaction-first.ensures _ c.var.ensures)
    (c.arrow-body.ensures _ _
    (c.arrow-then.ensures _ _ c.var-2.ensures (c.transaction.ensures _ c.var-3.ensures))
    (c.transaction-2.ensures _ c.var-4.ensures))))
