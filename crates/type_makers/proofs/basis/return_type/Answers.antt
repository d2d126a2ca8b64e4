use Rattle.type_makers.proofs.basis.return_type.Goals as goal

pub returns : goal.returns
returns c =
    c.each_type.ensures _ (c.arrow.ensures _ _ c.var-2.ensures (c.transaction-action.ensures _ c.var.ensures))
