use Rattle.type_makers.proofs.folds.rows_of.Goals as goal

pub returns : goal.returns
returns c = c.row_kind.ensures _ c.copy_kind.ensures
