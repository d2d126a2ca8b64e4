-- What a worker at the shelf needs to serve.
use Rattle.commit_cell.specs.declared.cell.Cell.{Cell}
use Rattle.commit_cell.specs.declared.replays.Replays.{Ghosts}
use Rattle.commit_cell.specs.Words.{IsFreeOf}
use Rattle.cell_trial.specs.declared.shelf.Shelf.{Shelf}
use Rattle.cell_trial.specs.declared.shelf.Record.{Record}
use Rattle.cell_trial.specs.declared.shelf_workers.ShelfWorker.{ShelfWorker}

-- the worker's pass is free and of the cell
abbrev pub IsReady : {F : Type 0} {G : Ghosts (Shelf F) Record} → Cell (Shelf F) Record → ShelfWorker F Record G
    → Type 0
IsReady c w = IsFreeOf c w.pass
