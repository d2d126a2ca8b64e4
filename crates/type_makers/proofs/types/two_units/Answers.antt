use Rattle.type_makers.proofs.types.two_units.Goals as goal

pub returns : goal.returns
returns c =
    c.two_field_row.ensures _ _ _ c.units_kind.ensures
    (c.field-first.ensures _ _ c.label.ensures c.unit_con.ensures)
    (c.field-second.ensures _ _ c.label-2.ensures c.unit_con-2.ensures)
