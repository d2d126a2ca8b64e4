use Rattle.std.proofs.Common.{◌∙◌}
use Rattle.link_router.specs.Reading.{few_for_truth, no_truth}
use Rattle.link_router.proofs.OnePiece.{truth_read, first_bad, none_left}
use Rattle.link_router.proofs.reader.read_truth.Goals as goal

pub returns-in_default-clause-err : goal.returns-in_default-clause-err
returns-in_default-clause-err c D = none_left c.in_default.ensures.none few_for_truth

pub returns-in_ok-name-in-Some-truth-clause-ok : goal.returns-in_ok-name-in-Some-truth-clause-ok
returns-in_ok-name-in-Some-truth-clause-ok c D = truth_read _ c.in-Some.ensures.some c.pass.ensures c.in-Some-truth.ensures.some.0 (c.in_ok-name-in-Some-truth.ensures ∙ c.in-Some-truth.ensures.some.1)

pub returns-in-None-clause-err : goal.returns-in-None-clause-err
returns-in-None-clause-err c D = first_bad c.in-Some.ensures.some (no_truth c.in-None.ensures.none)
