use Rattle.type_makers.proofs.basis.strcat_type.Goals as goal

pub returns : goal.returns
returns c =
    c.arrow.ensures _ _ c.string_type-3.ensures
    (c.arrow-rest.ensures _ _ c.string_type.ensures c.string_type-2.ensures)
