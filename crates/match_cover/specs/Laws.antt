-- What is so of the computed answers.
use Rattle.std.specs.Prelude.{◌≡◌, ℕ, Bool, true, false, List, [], ◌∷◌, Option, Some, None}
use Rattle.con_terms.specs.Trees.{Cn}
use Rattle.core_terms.specs.Trees.{Pt, Dt}
use Rattle.core_typing.specs.Cover.{Shp, ShapeOf, TooLargeIn, one_takes, patterns_depth, levels, Misses}
use Rattle.type_faults.specs.View.{shape_tree}
use Rattle.match_cover.specs.declared.fault.CoverFault.{CoverFault}
use Rattle.match_cover.specs.declared.fault.CoverFault.TheVariants as fault
use Rattle.match_cover.specs.Tests.{test_of}
use Rattle.match_cover.specs.Rows.{Row}
use Rattle.match_cover.specs.Levels.{large_among}
use Rattle.match_cover.specs.Misses.{Out, covered, missed, no_room, misses}

-- one row a pattern
abbrev pub rows_of : List Pt → List Row
rows_of [] = []
rows_of (p ∷ ps) = ((test_of p ∷ []) ∷ []) ∷ rows_of ps

-- the answer for patterns and a type, down to a depth
abbrev pub Answers : List Dt → ℕ → List Pt → Cn → Out → Type 0
Answers ds d ps t covered = (s : Shp) → ShapeOf ds d t s → one_takes ps s ≡ true
Answers ds d ps t (missed ss) = (s : Shp) × (ss ≡ s ∷ []) × (ShapeOf ds d t s) × (one_takes ps s ≡ false)
Answers ds d ps t no_room = Unit {0}

abbrev pub MissesAnswer : Type 0
MissesAnswer =
    (ds : List Dt) (room d : ℕ) (ps : List Pt) (t : Cn) → Answers ds d ps t (misses ds room ((d, t) ∷ []) (rows_of ps))

-- whether a type of a part is too large
abbrev pub Tells : List Dt → ℕ → Cn → Bool → Type 0
Tells ds d t true = TooLargeIn ds d t
Tells ds d t false = TooLargeIn ds d t → ⊥

abbrev pub LevelsTell : Type 0
LevelsTell = (ds : List Dt) (d : ℕ) (t : Cn) → Tells ds d t (large_among ds d (t ∷ []))

-- the rows and the depth are those of these patterns
abbrev pub Asks : List Pt → List Row → ℕ → Type 0
Asks ps rows depth = (rows ≡ rows_of ps) × (depth ≡ patterns_depth ps)

-- a shape that is missed, or each is taken
abbrev pub Missed : List Dt → List Pt → Cn → Option Shp → Type 0
Missed ds ps t None = (s : Shp) → ShapeOf ds (patterns_depth ps) t s → one_takes ps s ≡ true
Missed ds ps t (Some s) = Misses ds ps t s

-- the shape of the first column, where shapes are missed
abbrev pub TellsFirst : Out → Option Shp → Type 0
TellsFirst covered None = Unit {0}
TellsFirst covered (Some r) = ⊥
TellsFirst (missed []) o = ⊥
TellsFirst (missed (s ∷ ss)) None = ⊥
TellsFirst (missed (s ∷ ss)) (Some r) = r ≡ s
TellsFirst no_room o = ⊥

-- why patterns don't cover a type: want of memory needs no cause
abbrev pub Refused : List Dt → List Pt → Cn → CoverFault → Type 0
Refused ds ps t fault.TooLarge = TooLargeIn ds (levels ps) t
Refused ds ps t (fault.Missed s) = (TooLargeIn ds (levels ps) t → ⊥) × Misses ds ps t (shape_tree s)
Refused ds ps t fault.Memory = Unit {0}
