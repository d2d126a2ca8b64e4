use Rattle.judgements.specs.View.{sc_view}
use Rattle.con_terms.specs.View.{con_tree}
use Rattle.pattern_rules.proofs.Covering.{is_large, is_missed}
use Rattle.pattern_rules.proofs.cases.uncovered.Goals as goal

pub returns-in-Err-TooLarge-clause-cause : goal.returns-in-Err-TooLarge-clause-cause
returns-in-Err-TooLarge-clause-cause c = λ ps a.
    is_large (sc_view c.args.g.now c.args.s.now) c.args.p ps (con_tree c.args.t.now) _ c.in-Err-TooLarge.field-0-is (c.in-Err-TooLarge.ensures.refused ps a)

pub returns-in_ok-missed_at-in-Err-Missed-clause-cause :
    goal.returns-in_ok-missed_at-in-Err-Missed-clause-cause
returns-in_ok-missed_at-in-Err-Missed-clause-cause c = λ ps a.
    is_missed (sc_view c.args.g.now c.args.s.now) c.args.p ps (con_tree c.args.t.now) _ _ c.in-Err-Missed.shape c.in_ok-missed_at-in-Err-Missed.ensures c.in-Err-Missed.field-0-is (c.in-Err-Missed.ensures.refused ps a)
