-- Where values stand, and how many there are.
use Rattle.std.specs.Prelude.{◌≡◌, ℕ, ◌<◌, ◌+◌, List, [], ◌∷◌, length}
use Rattle.std.specs.List.{AllByRecursion}
use Rattle.core_terms.specs.Trees.{De}
use Rattle.core_typing.specs.Declarations.{Value, values}

-- a value stands in one of so many modules, outside of structures, and its name has a text
abbrev pub Stands : ℕ → ℕ → Value → Type 0
Stands modules names v = (v.place.file < modules) × (v.name < names) × (v.path ≡ [])

-- so do the values of a declaration
abbrev pub DeclStands : ℕ → ℕ → De → Type 0
DeclStands modules names d = AllByRecursion (Stands modules names) (values (d ∷ []))

-- the number of values, declaration by declaration
abbrev pub values_counted : List De → ℕ
values_counted [] = 0
values_counted (d ∷ ds) = length (values (d ∷ [])) + values_counted ds
