use Rattle.type_makers.proofs.types.no_types.Goals as goal

pub returns : goal.returns
returns c = c.no_fields.ensures
