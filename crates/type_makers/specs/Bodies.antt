-- The types of constructors before their datatypes' parameters.
use Rattle.std.specs.Prelude.{Option, Some, None}
use Rattle.con_terms.specs.Trees.{Cn, arrow}
use Rattle.core_terms.specs.Trees.{Dt}
use Rattle.core_terms.specs.Datatypes.{own_type}

-- held -> datatype t .., or datatype t .. where nothing is held
abbrev pub body_of : Dt → Option Cn → Cn
body_of d holds = elim holds [
  | None ↦ own_type d
  | Some held ↦ arrow held (own_type d)
]
