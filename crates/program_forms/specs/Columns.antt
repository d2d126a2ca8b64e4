-- What is asked of the columns of a key.
use Rattle.std.specs.Prelude.{ℕ, ◌<◌, List}
use Rattle.std.specs.List.{AllByRecursion}
use Rattle.con_terms.specs.declared.place.Place.{Place}

-- each column has a name with a text
abbrev pub ColumnsThere : ℕ → List (Place × ℕ) → Type 0
ColumnsThere n cs = AllByRecursion (λ (c : Place × ℕ). c.1 < n) cs
