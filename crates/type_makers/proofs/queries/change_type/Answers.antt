use Rattle.type_makers.proofs.queries.change_type.Goals as goal

pub returns : goal.returns
returns c = c.arrow.ensures _ _ c.dml_type.ensures (c.transaction.ensures _ c.unit_type.ensures)
