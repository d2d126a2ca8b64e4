use Rattle.type_makers.proofs.folds.fold_type.Goals as goal

pub returns : goal.returns
returns c =
    c.poly.ensures _ _ (c.arrow_kind-result_kind.ensures _ _ c.rows_of.ensures c.types_kind.ensures)
    (c.arrow-body-2.ensures _ _ c.fold_step_type.ensures
    (c.arrow-body.ensures _ _
    (c.applied-start.ensures _ _ c.var.ensures (c.empty_row-empty.ensures _ c.copy_kind.ensures))
    c.walks.ensures))
