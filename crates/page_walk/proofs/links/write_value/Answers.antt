use Rattle.page_walk.proofs.Forms.{unwritten_fields_result}
use Rattle.page_walk.proofs.links.write_value.Goals as goal

pub returns-in-Fields-clause-stops : goal.returns-in-Fields-clause-stops
returns-in-Fields-clause-stops c =
    unwritten_fields_result c.args.program.now c.args.value c.in-Fields.slots c.write_fields.result c.in-Fields.is c.write_fields.ensures.stops
