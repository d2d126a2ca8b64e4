use Rattle.std.proofs.Common.{arith}
use Rattle.told_places.proofs.Lines.{line_begins}
use Rattle.told_places.proofs.place.place_of.Goals as goal

pub range-requires-clause-start_boundary : goal.range-requires-clause-start_boundary
range-requires-clause-start_boundary c some =
    line_begins c.args.text.now c.as_bytes.result.now _ c.utf8.text c.as_bytes.ensures.value (omega (arith, c.start_of_line-start.ensures.start, c.requires.0))
    c.start_of_line-start.ensures.behind_feed
