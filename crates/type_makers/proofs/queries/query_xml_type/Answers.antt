use Rattle.type_makers.proofs.queries.query_xml_type.Goals as goal

pub returns : goal.returns
returns c =
    c.for_results.ensures _
    (c.each_context.ensures _
    (c.arrow-body-2.ensures _ _ (c.query.ensures _ _ c.var-3.ensures c.var-4.ensures)
    (c.arrow-body.ensures _ _
    (c.arrow-shows.ensures _ _ (c.query_row.ensures _ _ c.var.ensures c.var-2.ensures)
    c.plain_tree-2.ensures)
    (c.transaction-gives.ensures _ c.plain_tree.ensures))))
