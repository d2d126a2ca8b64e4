use Rattle.commit_cell.specs.Words.{StaysFree}
use Rattle.commit_cell.proofs.cell.Cell.take.Given as goal

abbrev pub invariant-loop : goal.invariant-loop
invariant-loop g l = StaysFree l.self l.initial.pass l.pass × (goal.iterator-loop g).can_next l.iterator' × (goal.iterator-loop g).is_finite l.iterator'
