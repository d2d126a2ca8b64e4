use Rattle.type_makers.proofs.queries.plain_tree.Goals as goal

pub returns : goal.returns
returns c = c.plain_xml.ensures _ c.var.ensures
