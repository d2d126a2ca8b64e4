use Rattle.link_router.specs.Pending.{agenda_view}
use Rattle.link_router.proofs.Written.{turn_written}
use Rattle.link_router.proofs.texts.push_values.Goals as goal

pub loop-values-preserved-in-Continue-branch-3 : goal.loop-values-preserved-in-Continue-branch-3
loop-values-preserved-in-Continue-branch-3 c =
    turn_written _ c.loop-values.text c.push_value.new.text (agenda_view c.loop-values.agenda) (agenda_view c.push-in-Some-split_first.new.self) (agenda_view c.push_value.new.agenda) (agenda_view c.pop.new.self) c.in-Some.values.now c.in-Some-split_first.others.now c.in-Some-split_first.first.now
    c.loop-values.invariant c.in-Some.ensures.some c.in-Some-split_first.ensures.cases.0 c.in_ok-push-2.ensures c.in_ok-push_value.ensures.written
