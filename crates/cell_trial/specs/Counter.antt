-- What a counter is after a history.
use Rattle.std.specs.Prelude.{◌≡◌, ℕ, ◌+◌, ◌++◌, List, length, sum_by}
use Rattle.commit_cell.specs.History.{of_number, CountsFrom}
use Rattle.cell_trial.specs.declared.counter.Counter.{Counter}
use Rattle.cell_trial.specs.declared.counter.Entry.{Entry}

-- the total has grown by the amounts of the history, which follows the entries that were there
abbrev pub Stands : Counter → List Entry → Counter → Type 0
Stands o log x = (x.total ≡ o.total + sum_by (λ (e : Entry). e.amount) log) × (x.entries.items ≡ o.entries.items ++ log)

-- the entries that the pass with this number made, in order
abbrev pub entries_of : Counter → ℕ → List Entry
entries_of x n = of_number (λ (e : Entry). e.number) n x.entries.items

-- the counter has so many entries of the pass with this number, and their serials are 0, 1, and so on
abbrev pub HasAllOf : Counter → ℕ × ℕ → Type 0
HasAllOf x m = (length (entries_of x m.0) ≡ m.1) × CountsFrom (λ (e : Entry). e.serial) 0 (entries_of x m.0)

-- a gathered number, and how many entries were gathered with it
abbrev pub counted : ℕ × List Entry → ℕ × ℕ
counted g = (g.0, length g.1)
