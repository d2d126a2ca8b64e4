-- What a worker needs to serve, and what it has done.
use Rattle.std.specs.Prelude.{◌≡◌, []}
use Rattle.commit_cell.specs.declared.cell.Cell.{Cell}
use Rattle.commit_cell.specs.Words.{IsFreeOf, gathered}
use Rattle.cell_trial.specs.declared.counter.Counter.{Counter}
use Rattle.cell_trial.specs.declared.counter.Entry.{Entry}
use Rattle.cell_trial.specs.declared.workers.Worker.{Worker}

-- the worker's pass is free, of the cell, and has gathered nothing
abbrev pub IsReady : Cell Counter Entry → Worker → Type 0
IsReady c w = IsFreeOf c w.pass × (gathered w.pass ≡ [])
