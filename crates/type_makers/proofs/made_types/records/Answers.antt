use Rattle.type_makers.proofs.made_types.records.Goals as goal

pub returns : goal.returns
returns c _ made_tables =
    c.applied-2.ensures _ _
    (c.applied.ensures _ _
    (c.map_of-map.ensures _ _ (c.row_kind.ensures _ c.types_kind.ensures) c.types_kind-2.ensures)
    (c.lambda-to_record.ensures _ _ (c.row_kind-2.ensures _ c.types_kind-3.ensures)
    (c.record-body.ensures _ c.var.ensures)))
    made_tables
