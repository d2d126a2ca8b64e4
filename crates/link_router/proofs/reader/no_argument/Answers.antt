use Rattle.link_router.specs.Reading as reading
use Rattle.link_router.proofs.OnePiece.{first_bad, none_left}
use Rattle.link_router.proofs.reader.no_argument.Goals as goal

pub returns-in-Some : goal.returns-in-Some
returns-in-Some c D place = first_bad c.in-Some.ensures.some reading.no_argument

pub returns-in-None : goal.returns-in-None
returns-in-None c D place = none_left c.in-None.ensures.none reading.few_for_parameter
