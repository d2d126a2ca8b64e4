use Rattle.type_makers.proofs.types.unit_type.Goals as goal

pub returns : goal.returns
returns c = c.record.ensures _ c.no_types.ensures
