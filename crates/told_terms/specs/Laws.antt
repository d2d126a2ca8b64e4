-- What is judged of a term is its type and its told fault; and what is told of terms can always be told.
use Rattle.std.specs.Prelude.{◌⊎◌, None}
use Rattle.con_terms.specs.Trees.{Cn}
use Rattle.core_terms.specs.Trees.{Ex}
use Rattle.core_typing.specs.Scopes.{Sc}
use Rattle.core_typing.specs.Cover.{Covers}
use Rattle.core_typing.specs.Faults.{Fault}
use Rattle.core_typing.specs.Found.{FoundBy}
use Rattle.core_typing.specs.Tells.{Fails}
use Rattle.told_faults.specs.Computed.{Jd}
use Rattle.told_faults.specs.Told.{ToldIs, Verdict}
use Rattle.judged_terms.specs.Judge.{Judges}

-- the type is the one that is found, and there is none where none is; the fault is the one that is told, before which
-- none fails, and there is none where none does
abbrev pub JudgedIsTold : Type 0
JudgedIsTold = (G : Sc) (e : Ex) (j : Jd) → Judges G e j → Verdict G e j

-- a term is found with cover, or it has a fault: no premise fails untold
abbrev pub IsFoundOrFails : Type 0
IsFoundOrFails = (G : Sc) (e : Ex) → ((t : Cn) × FoundBy Covers G e t) ⊎ ((f : Fault) × Fails G e f)

-- so a term of which nothing is told is found
abbrev pub SilentIsFound : Type 0
SilentIsFound = (G : Sc) (e : Ex) → ToldIs G e None → (t : Cn) × FoundBy Covers G e t
