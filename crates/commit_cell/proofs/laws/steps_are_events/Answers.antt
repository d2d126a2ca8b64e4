use Rattle.commit_cell.proofs.Shown as steps
use Rattle.commit_cell.proofs.laws.steps_are_events.Goals as goal

pub returns-clause-take : goal.returns-clause-take
returns-clause-take g c = steps.taking_looks _ _ g.S.Replays.number g.S.Replays.serial

pub returns-clause-give_entry : goal.returns-clause-give_entry
returns-clause-give_entry g c = steps.giving_commits _ _ g.S.Replays.number g.S.Replays.serial

pub returns-clause-give_back : goal.returns-clause-give_back
returns-clause-give_back g c = steps.giving_leaves _ _ g.S.Replays.number g.S.Replays.serial

pub returns-clause-mark : goal.returns-clause-mark
returns-clause-mark g c = steps.marking_leaves _ _ g.S.Replays.number g.S.Replays.serial

pub returns-clause-cut : goal.returns-clause-cut
returns-clause-cut g c = steps.cutting_seats _ _ g.S.Replays.number g.S.Replays.serial

pub returns-clause-draw : goal.returns-clause-draw
returns-clause-draw g c = steps.drawing_enters _ _ g.S.Replays.number g.S.Replays.serial

pub returns-clause-join : goal.returns-clause-join
returns-clause-join g c = steps.joining_joins _ _ g.S.Replays.number g.S.Replays.serial
