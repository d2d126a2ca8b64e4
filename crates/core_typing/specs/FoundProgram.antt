-- Which programs are found: the rules of declarations with comparison by normal forms, kinding as it is computed,
-- and cover.
use Rattle.std.specs.Prelude.{◌≡◌, ℕ, Bool, List, [], ◌∷◌, ◌++◌, map, Some}
use Rattle.std.specs.List.{Contains}
use Rattle.con_terms.specs.Trees.{Kd, types, Cn}
use Rattle.con_terms.specs.declared.place.Place.{Place}
use Rattle.core_terms.specs.Trees.{Ex, Nms, De, val, vals, con_is, datatype, Cd, Dt, Pg}
use Rattle.core_typing.specs.Scopes.{Sc}
use Rattle.core_typing.specs.Cover.{Covers}
use Rattle.core_typing.specs.Compared.{Alike}
use Rattle.core_typing.specs.Judged.{HasKind}
use Rattle.core_typing.specs.Found.{FoundBy, NamedFound}
use Rattle.core_typing.specs.Declarations.{value_types, named_values, scope_with, under_types, Distinct}
use Rattle.core_typing.specs.Accepts.{Formed, EntriesDiffer, Accepts}
use Rattle.core_typing.specs.Tells.{Clear}

-- what each constructor holds is found to be a type
abbrev pub HoldsFoundTypes : Sc → Dt → Type 0
HoldsFoundTypes G d = (c : Cd) (held : Cn)
    → Contains d.constructors c
    → c.holds ≡ Some held
    → HasKind (under_types d.parameters G) held types

-- each declaration is found where those before it are in scope
pub data DeclsFound : Pg → List Cn → List Dt → List De → Type 0 where
  -- no further declaration
  no_decls_found : {p : Pg} {tops : List Cn} {ds : List Dt} → DeclsFound p tops ds []
  -- val x : t = e .., where t :: Type and e : t; the rest under x : t
  a_val_found : {p : Pg} {tops : List Cn} {ds : List Dt} {path : List ℕ} {at : Place} {x : ℕ} {w : Bool} {t u : Cn}
      {e : Ex} {rest : List De}
      → HasKind (scope_with p tops ds) t types
      → FoundBy Covers (scope_with p tops ds) e u
      → Alike t u
      → DeclsFound p (tops ++ t ∷ []) ds rest
      → DeclsFound p tops ds (val path at x w t e ∷ rest)
  -- val rec x : t = e and .. .., where each name has its type; the rest under all of them
  vals_found : {p : Pg} {tops : List Cn} {ds : List Dt} {path : List ℕ} {ns : Nms} {rest : List De}
      → NamedFound Covers (scope_with p tops ds) (scope_with p (tops ++ value_types (named_values path ns)) ds) ns
      → DeclsFound p (tops ++ value_types (named_values path ns)) ds rest
      → DeclsFound p tops ds (vals path ns ∷ rest)
  -- con x :: k = c .., where c :: k
  con_found : {p : Pg} {tops : List Cn} {ds : List Dt} {path : List ℕ} {at : Place} {x : ℕ} {w : Bool} {k : Kd} {c :
      Cn} {rest : List De}
      → HasKind (scope_with p tops ds) c k
      → DeclsFound p tops ds rest
      → DeclsFound p tops ds (con_is path at x w k c ∷ rest)
  -- datatype d a .. = C of t | .. .., where t :: Type under d and a .., and constructors differ; the rest under d
  datatype_found : {p : Pg} {tops : List Cn} {ds : List Dt} {d : Dt} {rest : List De}
      → HoldsFoundTypes (scope_with p tops (ds ++ d ∷ [])) d
      → Distinct (map (λ (c : Cd). c.name) d.constructors)
      → DeclsFound p tops (ds ++ d ∷ []) rest
      → DeclsFound p tops ds (datatype d ∷ rest)

pub record ProgramFound (p : Pg) : Type 0 where
  pub formed : Formed p
  pub declarations : DeclsFound p [] [] p.decls
  pub entries : EntriesDiffer p

-- A program that is found is accepted.
abbrev pub FoundIsAccepted : Type 0
FoundIsAccepted = (p : Pg) → ProgramFound p → Accepts p

-- And it tells no fault.
abbrev pub FoundIsClear : Type 0
FoundIsClear = (p : Pg) → ProgramFound p → Clear p
