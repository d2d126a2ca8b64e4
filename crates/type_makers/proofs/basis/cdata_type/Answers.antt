use Rattle.type_makers.proofs.basis.cdata_type.Goals as goal

pub returns : goal.returns
returns c = c.each_context.ensures _ (c.each_row.ensures _ (c.for_leaf-body.ensures _ c.string_type.ensures))
