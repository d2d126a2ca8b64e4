use Rattle.type_makers.proofs.basis.for_leaf.Goals as goal

pub returns : goal.returns
returns c _ made_takes =
    c.arrow.ensures _ _ made_takes (c.xml.ensures _ _ _ c.var.ensures c.var-2.ensures c.no_fields.ensures)
