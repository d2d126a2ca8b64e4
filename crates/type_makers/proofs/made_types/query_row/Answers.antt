use Rattle.type_makers.proofs.made_types.query_row.Goals as goal

pub returns : goal.returns
returns c _ _ made_tables made_results =
    c.record.ensures _ (c.joined.ensures _ _ made_results (c.records.ensures _ made_tables))
