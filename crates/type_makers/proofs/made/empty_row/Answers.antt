use Rattle.type_makers.proofs.made.empty_row.Goals as goal

pub returns : goal.returns
returns c _ made_kind = c.row.ensures _ _ made_kind c.no_fields.ensures
