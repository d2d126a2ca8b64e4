-- What a typing may ask beyond the rules of the manual.
use Rattle.std.specs.Prelude.{List}
use Rattle.con_terms.specs.Trees.{types, Cn}
use Rattle.con_terms.specs.Kinded.{Scope, Kinded}
use Rattle.core_terms.specs.Trees.{Pt, Dt}
use Rattle.core_typing.specs.Cover.{Covers}

-- what is asked of the patterns that values of a type are matched with
abbrev pub CoverAsked : Type 1
CoverAsked = List Dt → List Pt → Cn → Type 0

-- what is asked of the patterns of a case and of a function's parameter, and of a type that another is exchanged
-- for: an equal one, or one that a proved guard is taken off
pub record Asks : Type 1 where
  pub cover : CoverAsked
  pub exchange : Scope → Cn → Type 0

-- nothing: the manual's typing
abbrev pub no_cover : CoverAsked
no_cover ds ps t = Unit {0}

abbrev pub no_exchange_asked : Scope → Cn → Type 0
no_exchange_asked G t = Unit {0}

-- cover alone
abbrev pub asking_cover : CoverAsked → Asks
asking_cover C = record { cover = C; exchange = no_exchange_asked }

abbrev pub nothing_asked : Asks
nothing_asked = asking_cover no_cover

-- that the patterns take every shape: the typing of accepted programs
abbrev pub cover_asked : Asks
cover_asked = asking_cover Covers

-- that what is exchanged for a type is a type too
abbrev pub kinds_asked : Asks
kinds_asked = record { cover = no_cover; exchange = λ G t. Kinded G t types }

-- each thing that B asks is one that A asks
pub record AsksMore (A B : Asks) : Type 0 where
  pub cover : (ds : List Dt) (ps : List Pt) (t : Cn) → A.cover ds ps t → B.cover ds ps t
  pub exchange : (G : Scope) (t : Cn) → A.exchange G t → B.exchange G t
