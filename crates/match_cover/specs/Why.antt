-- Why patterns don't cover a type, as it is computed.
use Rattle.std.specs.Prelude.{◌≡◌, ℕ, Bool, true, false, List, [], ◌∷◌, Option, Some, None, if◌then◌else◌}
use Rattle.con_terms.specs.Trees.{Cn}
use Rattle.core_terms.specs.Trees.{Pt, Dt}
use Rattle.core_typing.specs.Cover.{Shp, patterns_depth, levels, Covers}
use Rattle.type_faults.specs.View.{shape_tree}
use Rattle.match_cover.specs.declared.fault.CoverFault.{CoverFault}
use Rattle.match_cover.specs.declared.fault.CoverFault.TheVariants as fault
use Rattle.match_cover.specs.Levels.{large_among}
use Rattle.match_cover.specs.Misses.{Out, covered, missed, no_room, misses}
use Rattle.match_cover.specs.Laws.{rows_of}

-- the type, or that of a part that the patterns look at, is too large; or a shape that no pattern takes
pub data Why : Type 0 where
  is_large : Why
  is_missed : Shp → Why

-- how many columns may stand one after another
unfoldable pub column_room : ℕ
column_room = 3000

-- where the room is too small there is want of memory, and what is computed doesn't count
abbrev pub why_of : Out → Option Why
why_of covered = None
why_of (missed []) = Some is_large
why_of (missed (s ∷ ss)) = Some (is_missed s)
why_of no_room = Some is_large

-- a shape that is missed as the reason
abbrev pub why_missed : Option Shp → Option Why
why_missed None = None
why_missed (Some s) = Some (is_missed s)

abbrev pub why_unless : Bool → Out → Option Why
why_unless true o = Some is_large
why_unless false o = why_of o

abbrev pub why_not : List Dt → List Pt → Cn → Option Why
why_not ds ps t =
    why_unless (large_among ds (levels ps) (t ∷ [])) (misses ds column_room ((patterns_depth ps, t) ∷ []) (rows_of ps))

-- the first shape that is missed is the computed one
abbrev pub IsFirst : List Dt → List Pt → Cn → Option Shp → Type 0
IsFirst ds ps t o = why_of (misses ds column_room ((patterns_depth ps, t) ∷ []) (rows_of ps)) ≡ why_missed o

-- this is why; want of memory isn't computed
abbrev pub IsWhy : List Dt → List Pt → Cn → CoverFault → Type 0
IsWhy ds ps t fault.TooLarge = why_not ds ps t ≡ Some is_large
IsWhy ds ps t (fault.Missed s) = why_not ds ps t ≡ Some (is_missed (shape_tree s))
IsWhy ds ps t fault.Memory = Unit {0}

-- patterns of which nothing is computed to be told cover the type
abbrev pub SilentCovers : Type 0
SilentCovers = (ds : List Dt) (ps : List Pt) (t : Cn) → why_not ds ps t ≡ None → Covers ds ps t
