use Rattle.type_makers.proofs.made.field_row.Goals as goal

pub returns : goal.returns
returns c _ _ _ made_kind made_name made_value =
    c.row.ensures _ _ made_kind (c.one_field.ensures _ (c.field.ensures _ _ made_name made_value))
