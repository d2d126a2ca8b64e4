use Rattle.std.proofs.Common.{◌∙◌, arith}
use Rattle.link_router.proofs.Closing.{closed_is, int_in, words_in, unit_in, truth_in, record_in, parameter_in, argument_is}
use Rattle.link_router.proofs.Moves.{wants_as, unit_comes}
use Rattle.link_router.proofs.Onward.{in_place, stops_as}
use Rattle.link_router.proofs.reader.begin.Goals as goal

pub returns-in-Unit-clause-ok : goal.returns-in-Unit-clause-ok
returns-in-Unit-clause-ok c = unit_comes (closed_is c.args.wanted ∙ unit_in _ _ c.in-Unit.is)

pub returns-in_ok-begin_record-in-Rec-clause-ok : goal.returns-in_ok-begin_record-in-Rec-clause-ok
returns-in_ok-begin_record-in-Rec-clause-ok c = wants_as (closed_is c.args.wanted ∙ record_in _ _ _ c.in-Rec.is) (c.in_ok-begin_record-in-Rec.ensures _ _)

pub returns-in-Err-clause-err : goal.returns-in-Err-clause-err
returns-in-Err-clause-err c = stops_as _ _ _ _ _ _ (closed_is c.args.wanted ∙ int_in _ _ c.in-Int.is) (c.in-Err.ensures.err _)

pub returns-in-Err-read_words-clause-err : goal.returns-in-Err-read_words-clause-err
returns-in-Err-read_words-clause-err c = stops_as _ _ _ _ _ _ (closed_is c.args.wanted ∙ words_in _ _ c.in-Words.is) (c.in-Err-read_words.ensures.err _)

pub returns-in-Err-read_truth-clause-err : goal.returns-in-Err-read_truth-clause-err
returns-in-Err-read_truth-clause-err c = stops_as _ _ _ _ _ _ (closed_is c.args.wanted ∙ truth_in _ _ c.in-Truth.is) (c.in-Err-read_truth.ensures.err _)

pub returns-then-scope-place-clause-err : goal.returns-then-scope-place-clause-err
returns-then-scope-place-clause-err c = stops_as _ _ _ _ _ _ (closed_is c.args.wanted ∙ parameter_in _ _ c.in-Parameter.place c.in-Parameter.is (omega (arith, c.if-scope-place.true))) (c.no_argument.ensures _ c.in-Parameter.place)

pub returns-else-scope-place-clause-ok : goal.returns-else-scope-place-clause-ok
returns-else-scope-place-clause-ok c = wants_as (closed_is c.args.wanted ∙ argument_is _ _ c.in-Parameter.place c.index-scope-place.result c.in-Parameter.is (omega (arith, c.if-scope-place.false)) c.index-scope-place.is) in_place
