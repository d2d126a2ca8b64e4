use Rattle.type_makers.proofs.datatypes.basis_datatypes.Goals as goal

pub returns : goal.returns
returns c = c.three.ensures _ _ _ c.bool_datatype.ensures c.option_datatype.ensures c.list_datatype.ensures
