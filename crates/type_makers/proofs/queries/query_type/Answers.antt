use Rattle.type_makers.proofs.queries.query_type.Goals as goal

pub returns : goal.returns
returns c =
    c.for_results.ensures _
    (c.each_type.ensures _
    (c.arrow-body-3.ensures _ _ (c.query.ensures _ _ c.var-7.ensures c.var-8.ensures)
    (c.arrow-body-2.ensures _ _
    (c.arrow-step.ensures _ _ (c.query_row.ensures _ _ c.var-3.ensures c.var-4.ensures)
    (c.arrow-next.ensures _ _ c.var.ensures (c.transaction.ensures _ c.var-2.ensures)))
    (c.arrow-body.ensures _ _ c.var-5.ensures (c.transaction-2.ensures _ c.var-6.ensures)))))
