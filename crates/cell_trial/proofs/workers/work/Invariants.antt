use Rattle.cell_trial.specs.Ready.{IsReady}
use Rattle.cell_trial.proofs.workers.work.Given as goal

abbrev pub invariant-loop : goal.invariant-loop
invariant-loop g l = IsReady l.cell l.worker
