use Rattle.type_makers.proofs.datatypes.from_held.Goals as goal

pub returns : goal.returns
returns c = c.arrow.ensures _ _ c.copied.ensures c.own_type.ensures
