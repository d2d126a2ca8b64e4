-- What is found for a term, with a type and no fault, is found by the rules, with cover.
use Rattle.std.specs.Prelude.{◌≡◌, true, List, Some, None}
use Rattle.con_terms.specs.Trees.{types, Cn}
use Rattle.con_terms.specs.declared.place.Place.{Place}
use Rattle.core_terms.specs.Trees.{Ex, Nms}
use Rattle.core_typing.specs.Scopes.{Sc}
use Rattle.core_typing.specs.Asks.{cover_asked}
use Rattle.core_typing.specs.Compared.{Alike}
use Rattle.core_typing.specs.Cover.{Covers}
use Rattle.core_typing.specs.Found.{FoundBy, NamedFound}
use Rattle.core_typing.specs.Judged.{HasKind}
use Rattle.core_typing.specs.Typed.{Typed}
use Rattle.told_faults.specs.Computed.{Jd}
use Rattle.node_rules.specs.Locals.{Ls, with_declared}
use Rattle.judged_terms.specs.Judge.{Judges, JudgesAll}
use Rattle.judged_terms.specs.Listed.{name_terms, named_found}

-- of a judgement
abbrev pub Sound : Sc → Ex → Jd → Type 0
Sound G e j = (t : Cn) → j.type ≡ Some t → j.told ≡ None → FoundBy Covers G e t

abbrev pub JudgedIsFound : Type 0
JudgedIsFound = (G : Sc) (e : Ex) (j : Jd) → Judges G e j → Sound G e j

-- so that the term has the type
abbrev pub JudgedIsTyped : Type 0
JudgedIsTyped = (G : Sc) (e : Ex) (j : Jd) (t : Cn)
    → Judges G e j
    → j.type ≡ Some t
    → j.told ≡ None
    → Typed cover_asked G e t

-- all declarations are found, and nothing is told
pub record Clean (r : Ls) : Type 0 where
  pub found : r.found ≡ true
  pub kids : r.kids ≡ None
  pub own : r.own ≡ None

-- a name has its type, where its term stands in another scope
pub record HasDeclared (G H : Sc) (t : Cn) (e : Ex) : Type 0 where
  pub kind : HasKind G t types
  pub given : Cn
  pub found : FoundBy Covers H e given
  pub same : Alike t given

abbrev pub DeclaredIsFound : Type 0
DeclaredIsFound = (G H : Sc) (p q : Place) (t : Cn) (e : Ex) (j : Jd) (r : Ls)
    → Judges H e j
    → Clean (with_declared G p q t j r)
    → Clean r × HasDeclared G H t e

-- and so have names that are declared together
abbrev pub NamesAreFound : Type 0
NamesAreFound = (G H : Sc) (ns : Nms) (js : List Jd) (r : Ls)
    → JudgesAll H (name_terms ns) js
    → Clean (named_found G ns js r)
    → Clean r × NamedFound Covers G H ns
