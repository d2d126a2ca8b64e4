use Rattle.std.proofs.Common.{◌≡◌, All, vec_len}
use Rattle.commit_cell.specs.Words.{IsFreeOf, gathered, opening}
use Rattle.cell_trial.specs.Ready.{IsReady}
use Rattle.cell_trial.proofs.trial.staff.Given as goal

abbrev pub invariant-loop : goal.invariant-loop
invariant-loop g l = IsFreeOf l.cell l.pass × (gathered l.pass ≡ gathered l.initial.pass) × (opening l.pass ≡ opening l.initial.pass) × All (λ w. IsReady l.cell w) l.staff.items × (vec_len l.staff ≡ l.counter)
