-- No two folders are for one kind, and no two symbols are one.
use Rattle.std.specs.Prelude.{◌≢◌, ℕ, Bool, true, not, ◌&&◌, List, [], ◌∷◌}
use Rattle.std.specs.List.{AllByRecursion, slice_index_or, slice_set}
use Rattle.con_terms.specs.Trees.{Kd}

-- the kinds of folders, from the first on
abbrev pub KindsDiffer : List (Kd × ℕ) → Type 0
KindsDiffer [] = Unit {0}
KindsDiffer (f ∷ fs) = AllByRecursion (λ (g : Kd × ℕ). f.0 ≢ g.0) fs × KindsDiffer fs

-- the symbols, from the first on
abbrev pub SymbolsDiffer : List ℕ → Type 0
SymbolsDiffer [] = Unit {0}
SymbolsDiffer (x ∷ xs) = AllByRecursion (λ y. x ≢ y) xs × SymbolsDiffer xs

-- whether each number has a place among the marks, and none there when those before it are marked
abbrev pub unmarked : List Bool → List ℕ → Bool
unmarked marks [] = true
unmarked marks (x ∷ xs) = not (slice_index_or marks x true) && unmarked (slice_set marks x true) xs
