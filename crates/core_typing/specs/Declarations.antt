-- Declarations: the values that they make, and when they are typed.
-- The Ur/Web Manual, "Declaration Typing".
use Rattle.std.specs.Prelude.{◌≡◌, ◌≢◌, ℕ, length, take, Bool, List, [], ◌∷◌, ◌++◌, map, Some}
use Rattle.std.specs.List.{All, Contains}
use Rattle.con_terms.specs.Trees.{Kd, types, Cn}
use Rattle.con_terms.specs.Kinded.{Kinded}
use Rattle.con_terms.specs.declared.place.Place.{Place}
use Rattle.core_terms.specs.Trees.{Pt, Ex, Nms, no_named, named, Th, De, val, vals, con_is, datatype, thing, Cd, Dt, Pg}
use Rattle.core_terms.specs.Datatypes.{basis_datatypes}
use Rattle.core_typing.specs.Scopes.{Sc, top_scope, under_con}
use Rattle.core_typing.specs.Asks.{Asks}
use Rattle.core_typing.specs.Typed.{Typed, NamedTyped}
use Rattle.core_typing.specs.Cover.{Covers}

-- what a top-level value is: a term, or a thing without one
pub data Body : Type 0 where
  is_term : Ex → Body
  is_thing : Th → Body

-- a top-level value: where it stands, the structures around it, its name, its type and what it is
pub record Value : Type 0 where
  pub place : Place
  pub path : List ℕ
  pub name : ℕ
  pub con : Cn
  pub body : Body

abbrev pub named_values : List ℕ → Nms → List Value
named_values path no_named = []
named_values path (named p x w t e ns) = record { place = p; path = path; name = x; con = t; body = is_term e } ∷
    named_values path ns

-- the values of declarations, by their numbers
abbrev pub values : List De → List Value
values [] = []
values (val path p x w t e ∷ ds) = record { place = p; path = path; name = x; con = t; body = is_term e } ∷ values
    ds
values (vals path ns ∷ ds) = named_values path ns ++ values ds
values (con_is path p x w k c ∷ ds) = values ds
values (datatype d ∷ ds) = values ds
values (thing path p x k t ∷ ds) = record { place = p; path = path; name = x; con = t; body = is_thing k } ∷ values
    ds

-- their types
abbrev pub value_types : List Value → List Cn
value_types vs = map (λ (v : Value). v.con) vs

-- the datatypes that declarations make
abbrev pub datatypes : List De → List Dt
datatypes [] = []
datatypes (datatype d ∷ ds) = d ∷ datatypes ds
datatypes (val path p x w t e ∷ ds) = datatypes ds
datatypes (vals path ns ∷ ds) = datatypes ds
datatypes (con_is path p x w k c ∷ ds) = datatypes ds
datatypes (thing path p x k t ∷ ds) = datatypes ds

-- the scope at the top of a program where these values and datatypes were declared
abbrev pub scope_with : Pg → List Cn → List Dt → Sc
scope_with p tops ds = top_scope tops (basis_datatypes ++ ds) p.folders (length p.foreigns)

-- what counts for a declaration, by its number: what is declared before it
abbrev pub datatypes_before : ℕ → List De → List Dt
datatypes_before n ds = basis_datatypes ++ datatypes (take n ds)

abbrev pub scope_before : Pg → ℕ → Sc
scope_before p n = scope_with p (value_types (values (take n p.decls))) (datatypes (take n p.decls))

-- the patterns take every value of a type, where so many declarations count
abbrev pub CoversBefore : List De → ℕ → List Pt → Cn → Type 0
CoversBefore decls n ps t = Covers (datatypes_before n decls) ps t

-- under a datatype's parameters, the first outermost
abbrev pub under_types : List ℕ → Sc → Sc
under_types [] G = G
under_types (x ∷ xs) G = under_types xs (under_con x types G)

-- what each constructor holds is a type
abbrev pub HoldsTypes : Sc → Dt → Type 0
HoldsTypes G d = (c : Cd) (held : Cn)
    → Contains d.constructors c
    → c.holds ≡ Some held
    → Kinded (under_types d.parameters G).kinds held types

-- no name stands in the list twice
abbrev pub Distinct : List ℕ → Type 0
Distinct [] = Unit {0}
Distinct (x ∷ xs) = All (λ y. x ≢ y) xs × Distinct xs

-- each declaration is typed where those before it are in scope: values by their written types, names that are
-- declared together with each other, a datatype with itself. No rule types a thing without a term yet: its
-- declaration is told not to be built
pub data DeclsTyped (A : Asks) : Pg → List Cn → List Dt → List De → Type 0 where
  -- no further declaration
  no_decls : {p : Pg} {tops : List Cn} {ds : List Dt} → DeclsTyped A p tops ds []
  -- val x : t = e .., where t :: Type and e : t; the rest under x : t
  a_val : {p : Pg} {tops : List Cn} {ds : List Dt} {path : List ℕ} {at : Place} {x : ℕ} {w : Bool} {t : Cn} {e : Ex}
      {rest : List De}
      → Kinded (scope_with p tops ds).kinds t types
      → Typed A (scope_with p tops ds) e t
      → DeclsTyped A p (tops ++ t ∷ []) ds rest
      → DeclsTyped A p tops ds (val path at x w t e ∷ rest)
  -- val rec x : t = e and .. .., where each name has its type; the rest under all of them
  some_vals : {p : Pg} {tops : List Cn} {ds : List Dt} {path : List ℕ} {ns : Nms} {rest : List De}
      → NamedTyped A (scope_with p tops ds) (scope_with p (tops ++ value_types (named_values path ns)) ds) ns
      → DeclsTyped A p (tops ++ value_types (named_values path ns)) ds rest
      → DeclsTyped A p tops ds (vals path ns ∷ rest)
  -- con x :: k = c .., where c :: k
  a_con : {p : Pg} {tops : List Cn} {ds : List Dt} {path : List ℕ} {at : Place} {x : ℕ} {w : Bool} {k : Kd} {c : Cn}
      {rest : List De}
      → Kinded (scope_with p tops ds).kinds c k
      → DeclsTyped A p tops ds rest
      → DeclsTyped A p tops ds (con_is path at x w k c ∷ rest)
  -- datatype d a .. = C of t | .. .., where t :: Type under d and a .., and constructors differ; the rest under d
  a_datatype : {p : Pg} {tops : List Cn} {ds : List Dt} {d : Dt} {rest : List De}
      → HoldsTypes (scope_with p tops (ds ++ d ∷ [])) d
      → Distinct (map (λ (c : Cd). c.name) d.constructors)
      → DeclsTyped A p tops (ds ++ d ∷ []) rest
      → DeclsTyped A p tops ds (datatype d ∷ rest)
