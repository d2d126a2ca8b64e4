use Rattle.type_makers.proofs.made_types.no_fields.Goals as goal

pub returns : goal.returns
returns c = c.empty_row.ensures _ c.types_kind.ensures
