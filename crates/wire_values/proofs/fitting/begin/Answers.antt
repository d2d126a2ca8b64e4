use Rattle.std.proofs.Common.{◌∙◌, arith}
use Rattle.link_router.proofs.Moves.{ok_then}
use Rattle.wire_values.proofs.Closing.{closed_is, int_in, words_in, unit_in, truth_in, record_in, data_in, argument_is}
use Rattle.wire_values.proofs.Moves.{in_place, wants_as, value_comes}
use Rattle.wire_values.proofs.fitting.begin.Goals as goal

pub returns-in_ok-number-in-Int : goal.returns-in_ok-number-in-Int
returns-in_ok-number-in-Int c = wants_as (closed_is c.args.closed ∙ int_in _ _ c.in-Int.is) (value_comes (c.in_ok-number-in-Int.ensures _))

pub returns-in_ok-words-in-Words : goal.returns-in_ok-words-in-Words
returns-in_ok-words-in-Words c = wants_as (closed_is c.args.closed ∙ words_in _ _ c.in-Words.is) (value_comes (c.in_ok-words-in-Words.ensures _))

pub returns-in_ok-unit-in-Unit : goal.returns-in_ok-unit-in-Unit
returns-in_ok-unit-in-Unit c = wants_as (closed_is c.args.closed ∙ unit_in _ _ c.in-Unit.is) (value_comes (c.in_ok-unit-in-Unit.ensures _))

pub returns-in_ok-truth-in-Truth : goal.returns-in_ok-truth-in-Truth
returns-in_ok-truth-in-Truth c = wants_as (closed_is c.args.closed ∙ truth_in _ _ c.in-Truth.is) (value_comes (c.in_ok-truth-in-Truth.ensures _))

pub returns-in-Rec : goal.returns-in-Rec
returns-in-Rec c = ok_then c.begin_record.result c.begin_record.ensures (λ step f. wants_as (closed_is c.args.closed ∙ record_in _ _ _ c.in-Rec.is) f)

pub returns-in-Data : goal.returns-in-Data
returns-in-Data c = ok_then c.begin_data.result c.begin_data.ensures (λ step f. wants_as (closed_is c.args.closed ∙ data_in _ _ _ _ c.in-Data.is) f)

pub returns-else-scope-place : goal.returns-else-scope-place
returns-else-scope-place c = wants_as (closed_is c.args.closed ∙ argument_is _ _ c.in-Parameter.place c.index-scope-place.result c.in-Parameter.is (omega (arith, c.if-scope-place.false)) c.index-scope-place.is) in_place
