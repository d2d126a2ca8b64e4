use Rattle.type_makers.proofs.datatypes.pair_of_list.Goals as goal

pub returns : goal.returns
returns c =
    c.record.ensures _
    (c.two_field_row.ensures _ _ _ c.types_kind.ensures
    (c.field-first.ensures _ _ c.label.ensures c.var-2.ensures)
    (c.field-second.ensures _ _ c.label-2.ensures (c.basic_at-rest.ensures _ c.var.ensures)))
