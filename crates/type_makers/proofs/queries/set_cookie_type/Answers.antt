use Rattle.type_makers.proofs.queries.set_cookie_type.Goals as goal

pub returns : goal.returns
returns c =
    c.each_type.ensures _
    (c.arrow.ensures _ _ (c.basic_at.ensures _ c.var-2.ensures)
    (c.arrow-body.ensures _ _ (c.setting.ensures _ c.var.ensures)
    (c.transaction-gives.ensures _ c.unit_type.ensures)))
