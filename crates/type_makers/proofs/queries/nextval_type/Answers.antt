use Rattle.type_makers.proofs.queries.nextval_type.Goals as goal

pub returns : goal.returns
returns c = c.arrow.ensures _ _ c.sequence_type.ensures (c.transaction.ensures _ c.int_type.ensures)
