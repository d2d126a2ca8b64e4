use Rattle.type_makers.proofs.queries.for_results.Goals as goal

pub returns : goal.returns
returns c _ made_body =
    c.poly.ensures _ _ (c.row_kind.ensures _ (c.row_kind-columns.ensures _ c.types_kind.ensures))
    (c.each_row-body.ensures _ (c.guarded.ensures _ _ _ c.var.ensures c.var-2.ensures made_body))
