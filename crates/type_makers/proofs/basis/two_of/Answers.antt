use Rattle.type_makers.proofs.basis.two_of.Goals as goal

pub returns : goal.returns
returns c _ _ made_class made_gives =
    c.each_type.ensures _
    (c.arrow-2.ensures _ _ made_class
    (c.arrow-body.ensures _ _ c.var.ensures (c.arrow.ensures _ _ c.var-2.ensures made_gives)))
