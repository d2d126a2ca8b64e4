use Rattle.type_makers.proofs.basis.joins.Goals as goal

pub returns : goal.returns
returns c =
    c.arrow-2.ensures _ _ (c.xml-first.ensures _ _ _ c.var.ensures c.var-2.ensures c.var-3.ensures)
    (c.arrow.ensures _ _
    (c.xml-second.ensures _ _ _ c.var-4.ensures (c.joined.ensures _ _ c.var-5.ensures c.var-6.ensures)
    c.var-7.ensures)
    (c.xml-whole.ensures _ _ _ c.var-8.ensures c.var-9.ensures
    (c.joined-2.ensures _ _ c.var-10.ensures c.var-11.ensures)))
