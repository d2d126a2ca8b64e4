use Rattle.type_makers.proofs.made_types.plain_xml.Goals as goal

pub returns : goal.returns
returns c _ made_context = c.xml.ensures _ _ _ made_context c.no_fields.ensures c.no_fields-2.ensures
