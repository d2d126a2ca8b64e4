use Rattle.type_makers.proofs.queries.one_row_type.Goals as goal

pub returns : goal.returns
returns c =
    c.for_results.ensures _
    (c.arrow.ensures _ _ (c.query.ensures _ _ c.var-3.ensures c.var-4.ensures)
    (c.transaction-gives.ensures _ (c.query_row.ensures _ _ c.var.ensures c.var-2.ensures)))
