use Rattle.type_makers.proofs.by_name.expression_kind.Goals as goal

pub returns : goal.returns
returns c =
    c.arrow_kind.ensures _ _ c.tables_kind.ensures
    (c.arrow_kind-gives.ensures _ _ c.types_kind.ensures c.types_kind-2.ensures)
