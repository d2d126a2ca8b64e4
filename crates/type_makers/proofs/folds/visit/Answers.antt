use Rattle.type_makers.proofs.folds.visit.Goals as goal

pub returns : goal.returns
returns c =
    c.arrow.ensures _ _ (c.applied.ensures _ _ c.var-5.ensures c.var-6.ensures)
    (c.applied-after.ensures _ _ c.var-3.ensures
    (c.joined.ensures _ _ (c.field_row-field.ensures _ _ _ c.copy_kind.ensures c.var.ensures c.var-2.ensures)
    c.var-4.ensures))
