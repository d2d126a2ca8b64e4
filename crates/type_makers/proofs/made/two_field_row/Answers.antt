use Rattle.type_makers.proofs.made.two_field_row.Goals as goal

pub returns : goal.returns
returns c _ _ _ made_kind made_first made_second =
    c.row.ensures _ _ made_kind (c.two_fields.ensures _ _ made_first made_second)
