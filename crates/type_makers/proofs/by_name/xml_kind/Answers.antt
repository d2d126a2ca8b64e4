use Rattle.type_makers.proofs.by_name.xml_kind.Goals as goal

pub returns : goal.returns
returns c =
    c.arrow_kind.ensures _ _ (c.row_kind-3.ensures _ c.units_kind.ensures)
    (c.arrow_kind-gives-2.ensures _ _ (c.row_kind-2.ensures _ c.types_kind-3.ensures)
    (c.arrow_kind-gives.ensures _ _ (c.row_kind.ensures _ c.types_kind.ensures) c.types_kind-2.ensures))
