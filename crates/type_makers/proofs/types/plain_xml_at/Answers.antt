use Rattle.type_makers.proofs.types.plain_xml_at.Goals as goal

pub returns : goal.returns
returns c = c.plain_xml.ensures _ c.one_unit.ensures
