-- What is so of what is computed for patterns.
use Rattle.std.specs.Prelude.{◌≡◌, List, ◌++◌, None}
use Rattle.con_terms.specs.Trees.{Cn}
use Rattle.con_terms.specs.declared.place.Place.{Place}
use Rattle.core_terms.specs.Trees.{Pt}
use Rattle.core_typing.specs.Scopes.{Sc}
use Rattle.core_typing.specs.Cover.{Covers}
use Rattle.core_typing.specs.PatternFaults.{PatFound}
use Rattle.judgements.specs.Bindings.{bind_these}
use Rattle.pattern_rules.specs.Binds.{binding}
use Rattle.pattern_rules.specs.Matching.{uncovered}

-- what a pattern binds is what it is found to bind, before what is bound already
abbrev pub BoundIsFound : Type 0
BoundIsFound = (G : Sc) (L : List Cn) (q : Pt) (t : Cn) (M : List Cn)
    → binding G L q t ≡ bind_these M
    → (ts : List Cn) × PatFound G q t ts × (M ≡ ts ++ L)

-- patterns of which nothing is told cover the type
abbrev pub SilentIsCovered : Type 0
SilentIsCovered = (G : Sc) (p : Place) (ps : List Pt) (t : Cn)
    → uncovered G p ps t ≡ None
    → Covers G.datatypes ps t
