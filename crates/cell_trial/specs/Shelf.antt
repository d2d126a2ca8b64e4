-- What a shelf is after a history.
use Rattle.std.specs.Prelude.{◌≡◌, ◌+◌, List, length}
use Rattle.cell_trial.specs.declared.shelf.Shelf.{Shelf}
use Rattle.cell_trial.specs.declared.shelf.Record.{Record}

-- it counts the history
abbrev pub Stands : {F : Type 0} → Shelf F → List Record → Shelf F → Type 0
Stands o log x = x.count ≡ o.count + length log
