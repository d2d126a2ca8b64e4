use Rattle.type_makers.proofs.types.one_unit.Goals as goal

pub returns : goal.returns
returns c = c.field_row.ensures _ _ _ c.units_kind.ensures c.label.ensures c.unit_con.ensures
