use Rattle.link_router.specs.Reading.{few_for_int, no_int}
use Rattle.link_router.proofs.OnePiece.{number_read, first_bad, none_left}
use Rattle.link_router.proofs.reader.read_number.Goals as goal

pub returns-in_default-clause-err : goal.returns-in_default-clause-err
returns-in_default-clause-err c D = none_left c.in_default.ensures.none few_for_int

pub returns-in-Some-number-clause-ok : goal.returns-in-Some-number-clause-ok
returns-in-Some-number-clause-ok c D = number_read c.in-Some.ensures.some c.pass.ensures c.in-Some-number.ensures.some

pub returns-in-None-clause-err : goal.returns-in-None-clause-err
returns-in-None-clause-err c D = first_bad c.in-Some.ensures.some (no_int c.in-None.ensures.none)
