-- What the scopes of an accepted program have: what doesn't depend on binders has its kind at the top, where
-- nothing is bound and nothing assumed.
use Rattle.std.specs.Prelude.{◌≡◌, ℕ, zero, suc, List, [], ◌∷◌, Some, slice_get}
use Rattle.std.specs.List.{Contains}
use Rattle.con_terms.specs.Trees.{Kd, types, row_of, to, Cn}
use Rattle.con_terms.specs.Kinded.{Scope, basic_kind, Kinded}
use Rattle.core_terms.specs.Names.{bool_name, option_name, list_name}
use Rattle.core_terms.specs.Trees.{Cd, Dt, arity}
use Rattle.core_terms.specs.Types.{type_taking}
use Rattle.core_terms.specs.Datatypes.{datatype_of}
use Rattle.core_typing.specs.Scopes.{Sc, basis_kinds}

-- so many times the kind Type
abbrev pub so_many_types : ℕ → List Kd
so_many_types zero = []
so_many_types (suc n) = types ∷ so_many_types n

-- under so many types, with these basic names, where nothing is assumed
abbrev pub at_top : ℕ → List (ℕ × Kd) → Scope
at_top n basics = record { binders = so_many_types n; guards = []; basics = basics }

pub record Grounded (G : Sc) : Type 0 where
  -- each top-level value has a type
  pub tops : (i : ℕ) (t : Cn) → slice_get G.tops i ≡ Some t → Kinded (at_top 0 G.kinds.basics) t types
  -- what a constructor of a datatype holds is a type, under the datatype's parameters
  pub held : (s j : ℕ) (d : Dt) (c : Cd) (h : Cn)
      → datatype_of G.datatypes s ≡ Some d
      → slice_get d.constructors j ≡ Some c
      → c.holds ≡ Some h
      → Kinded (at_top (arity d) G.kinds.basics) h types
  -- datatypes, folders and the types of the basis have their kinds
  pub datatypes : (s : ℕ) (d : Dt)
      → datatype_of G.datatypes s ≡ Some d
      → basic_kind G.kinds.basics s ≡ Some (type_taking (arity d))
  pub folders : (k : Kd) (s : ℕ)
      → Contains G.folders (k, s)
      → basic_kind G.kinds.basics s ≡ Some (to (row_of k) types)
  pub basis : (b : ℕ × Kd) → Contains basis_kinds b → basic_kind G.kinds.basics b.0 ≡ Some b.1
  pub bools : basic_kind G.kinds.basics bool_name ≡ Some types
  pub options : basic_kind G.kinds.basics option_name ≡ Some (to types types)
  pub lists : basic_kind G.kinds.basics list_name ≡ Some (to types types)

-- and each variable's type is a type
pub record HasTypes (G : Sc) : Type 0 where
  pub grounded : Grounded G
  pub locals : (i : ℕ) (t : Cn) → slice_get G.locals i ≡ Some t → Kinded G.kinds t types
