use Rattle.type_makers.proofs.types.table_type.Goals as goal

pub returns : goal.returns
returns c = c.plain_xml_at.ensures
