-- Rows of tests: of each of several values, one column each, a list of tests that all are to be passed. A column
-- behind a row's last one asks nothing.
use Rattle.std.specs.Prelude.{ℕ, Bool, true, false, ◌&&◌, ◌==◌, List, [], ◌∷◌, Option, Some, None, if◌then◌else◌}
use Rattle.con_terms.specs.Trees.{Cn}
use Rattle.core_typing.specs.Cover.{Shp}
use Rattle.match_cover.specs.Tests.{Ts, anything, a_holding, some_fields, Tfs, no_tests, passes, tests_then, tests_named, tests_not_named, pass_leaves}

abbrev pub Cell : Type 0
Cell = List Ts

abbrev pub Row : Type 0
Row = List Cell

-- whether a shape passes all tests of a cell
abbrev pub cell_passes : Cell → Shp → Bool
cell_passes [] s = true
cell_passes (t ∷ ts) s = passes t s && cell_passes ts s

-- whether a test asks nothing, and a cell
abbrev pub asks_nothing : Ts → Bool
asks_nothing anything = true
asks_nothing _ = false

abbrev pub is_free : Cell → Bool
is_free [] = true
is_free (t ∷ ts) = asks_nothing t && is_free ts

abbrev pub row_is_free : Row → Bool
row_is_free [] = true
row_is_free (c ∷ cs) = is_free c && row_is_free cs

-- whether shapes, one a column, pass a row, and one of some rows
abbrev pub row_passes : Row → List Shp → Bool
row_passes [] ss = true
row_passes (c ∷ cs) [] = row_is_free (c ∷ cs)
row_passes (c ∷ cs) (s ∷ ss) = cell_passes c s && row_passes cs ss

abbrev pub one_passes : List Row → List Shp → Bool
one_passes [] ss = false
one_passes (r ∷ rs) ss = if row_passes r ss then true else one_passes rs ss

-- whether one of the rows asks nothing
abbrev pub one_is_free : List Row → Bool
one_is_free [] = false
one_is_free (r ∷ rs) = if row_is_free r then true else one_is_free rs

-- whether the first column asks nothing in any row
abbrev pub head_is_free : Row → Bool
head_is_free [] = true
head_is_free (c ∷ cs) = is_free c

abbrev pub heads_are_free : List Row → Bool
heads_are_free [] = true
heads_are_free (r ∷ rs) = if head_is_free r then heads_are_free rs else false

-- what a change leaves of each row that it doesn't drop
abbrev pub kept_by : (Row → Option Row) → List Row → List Row
kept_by f [] = []
kept_by f (r ∷ rs) = elim (f r) [ None ↦ kept_by f rs | Some x ↦ x ∷ kept_by f rs ]

-- the rows whose first column a shape passes
abbrev pub kept_at : Shp → Row → Option Row
kept_at s [] = Some []
kept_at s (c ∷ cs) = if cell_passes c s then Some (c ∷ cs) else None

abbrev pub kept : Shp → List Row → List Row
kept s rs = kept_by (kept_at s) rs

-- without the first column
abbrev pub tail_of : Row → Option Row
tail_of [] = Some []
tail_of (c ∷ cs) = Some cs

abbrev pub tails : List Row → List Row
tails rs = kept_by tail_of rs

-- what tests ask of what a constructor holds, where the value is made by it
abbrev pub held_tests : ℕ → ℕ → Cell → Option Cell
held_tests s j [] = Some []
held_tests s j (anything ∷ ts) = held_tests s j ts
held_tests s j (a_holding r i t ∷ ts) =
    if (r == s) && (i == j) then elim (held_tests s j ts) [ None ↦ None | Some more ↦ Some (t ∷ more) ] else None
held_tests s j (_ ∷ ts) = None

abbrev pub with_cell : Option Cell → Row → Option Row
with_cell None cs = None
with_cell (Some c) cs = Some (c ∷ cs)

abbrev pub inside_of : ℕ → ℕ → Row → Option Row
inside_of s j [] = Some []
inside_of s j (c ∷ cs) = with_cell (held_tests s j c) cs

abbrev pub inside : ℕ → ℕ → List Row → List Row
inside s j rs = kept_by (inside_of s j) rs

-- what tests ask of a record's fields
abbrev pub fields_asked : Cell → Option Tfs
fields_asked [] = Some no_tests
fields_asked (anything ∷ ts) = fields_asked ts
fields_asked (some_fields fs ∷ ts) = elim (fields_asked ts) [ None ↦ None | Some more ↦ Some (tests_then fs more) ]
fields_asked (_ ∷ ts) = None

-- the fields as columns: of each name the first counts, and a field that isn't there is one of which nothing is known
abbrev pub before_cell : Cell → Option Row → Option Row
before_cell c None = None
before_cell c (Some r) = Some (c ∷ r)

abbrev pub before_cells : List Cell → Option Row → Option Row
before_cells [] o = o
before_cells (c ∷ cs) o = before_cell c (before_cells cs o)

abbrev pub columns_of : List (Cn × Cn) → Tfs → Row → Option Row
columns_of [] ts cs = if pass_leaves ts then Some cs else None
columns_of (f ∷ fs) ts cs = before_cell (tests_named f.0 ts) (columns_of fs (tests_not_named f.0 ts) cs)

abbrev pub opened_of : List (Cn × Cn) → Row → Option Row
opened_of fs [] = Some []
opened_of fs (c ∷ cs) = elim (fields_asked c) [ None ↦ None | Some ts ↦ columns_of fs ts cs ]

abbrev pub opened : List (Cn × Cn) → List Row → List Row
opened fs rs = kept_by (opened_of fs) rs
