use Rattle.type_makers.proofs.basis.show_from_type.Goals as goal

pub returns : goal.returns
returns c =
    c.each_type.ensures _
    (c.arrow.ensures _ _ (c.arrow-shows.ensures _ _ c.var.ensures c.string_type.ensures)
    (c.basic_at.ensures _ c.var-2.ensures))
