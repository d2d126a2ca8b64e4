use Rattle.type_makers.proofs.by_name.tables_kind.Goals as goal

pub returns : goal.returns
returns c = c.row_kind-2.ensures _ (c.row_kind.ensures _ c.types_kind.ensures)
