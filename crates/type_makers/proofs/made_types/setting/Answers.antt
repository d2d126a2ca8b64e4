use Rattle.type_makers.proofs.made_types.setting.Goals as goal

pub returns : goal.returns
returns c _ made_t =
    c.record.ensures _
    (c.two_field_row.ensures _ _ _ c.types_kind.ensures (c.field-value.ensures _ _ c.label.ensures made_t)
    (c.field-secure.ensures _ _ c.label-2.ensures c.basic.ensures))
