use Rattle.type_makers.proofs.folds.fold_step_type.Goals as goal

pub returns : goal.returns
returns c =
    c.poly.ensures _ _ c.names_kind.ensures
    (c.poly-body-2.ensures _ _ c.copy_kind.ensures
    (c.poly-body.ensures _ _ c.rows_of.ensures
    (c.guarded-body.ensures _ _ _
    (c.field_row-label.ensures _ _ _ c.units_kind.ensures c.var.ensures c.unit_con.ensures)
    c.var-2.ensures c.visit.ensures)))
