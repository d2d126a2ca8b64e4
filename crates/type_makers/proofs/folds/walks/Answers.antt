use Rattle.type_makers.proofs.folds.walks.Goals as goal

pub returns : goal.returns
returns c =
    c.poly.ensures _ _ c.rows_of.ensures
    (c.arrow-body.ensures _ _ (c.basic_at-walked.ensures _ c.var.ensures)
    (c.applied.ensures _ _ c.var-2.ensures c.var-3.ensures))
