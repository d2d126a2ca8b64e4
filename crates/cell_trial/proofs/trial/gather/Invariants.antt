use Rattle.std.proofs.Common.{◌≡◌, ◌+◌, All, vec_len, map}
use Rattle.commit_cell.specs.Words.{IsFreeOf, gathered, opening}
use Rattle.cell_trial.specs.Counter.{counted}
use Rattle.cell_trial.specs.Ready.{IsReady}
use Rattle.cell_trial.proofs.trial.gather.Given as goal

abbrev pub invariant-loop-worker : goal.invariant-loop-worker
invariant-loop-worker l = IsFreeOf l.cell l.pass × (opening l.pass ≡ opening l.initial.pass) × All (λ w. IsReady l.cell w) l.workers.items × (l.made.items ≡ map counted (gathered l.pass)) × (vec_len l.made + vec_len l.workers ≡ vec_len l.initial.workers) × All (λ m. m.1 ≡ l.entries) l.made.items

abbrev pub decreases-loop-worker : goal.decreases-loop-worker
decreases-loop-worker l = vec_len l.workers
