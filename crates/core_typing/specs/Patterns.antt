-- Which patterns have which types, and the types of what they bind, the innermost first.
-- The Ur/Web Manual, "Pattern Typing".
use Rattle.std.specs.Prelude.{◌≡◌, ℕ, ℤ, true, false, List, [], ◌∷◌, ◌++◌, length, Some, None, slice_get}
use Rattle.con_terms.specs.Trees.{types, names, Cn, basic, record_of, cat, Prs, no_pairs, pair}
use Rattle.con_terms.specs.Equal.{Equal}
use Rattle.con_terms.specs.Kinded.{Kinded}
use Rattle.con_terms.specs.declared.place.Place.{Place}
use Rattle.core_terms.specs.Trees.{Pt, pattern, any, binds, is_number, is_text, is_bare, is_holding, has_fields, annotated, Pfs, no_pat_fields, pat_field, Cd, Dt, arity}
use Rattle.core_terms.specs.Types.{int_type, string_type, type_row, at_types}
use Rattle.core_terms.specs.Datatypes.{datatype_of, held_at}
use Rattle.core_typing.specs.Scopes.{Sc}
use Rattle.core_typing.specs.Asks.{Asks}

-- a constructor of a datatype, at as many types as the datatype takes
pub record AtConstructor (G : Sc) (s j : ℕ) (args : List Cn) (c : Cd) : Type 0 where
  pub declared_as : Dt
  pub declared : datatype_of G.datatypes s ≡ Some declared_as
  pub constructor : slice_get declared_as.constructors j ≡ Some c
  pub number_of_types : length args ≡ arity declared_as

mutual
  pub data PatTyped (A : Asks) : Sc → Pt → Cn → List Cn → Type 0 where
    -- a type may be replaced by an equal one. The manual asks kinds of what a pattern has written, and not again of
    -- what it is matched with
    by_equal : {G : Sc} {p : Pt} {t u : Cn} {ts : List Cn}
        → PatTyped A G p t ts
        → Equal t u
        → A.exchange G.kinds u
        → PatTyped A G p u ts
    -- _ : t, which binds nothing
    of_any : {G : Sc} {p : Place} {t : Cn} → PatTyped A G (pattern p any) t []
    -- x : t, where t :: Type, which binds x
    of_binds : {G : Sc} {p : Place} {x : ℕ} {t : Cn}
        → Kinded G.kinds t types
        → PatTyped A G (pattern p (binds x t)) t (t ∷ [])
    -- 1 : int
    of_number : {G : Sc} {p : Place} {z : ℤ} → PatTyped A G (pattern p (is_number z)) int_type []
    -- "a" : string
    of_text : {G : Sc} {p : Place} {w : List ℕ} → PatTyped A G (pattern p (is_text w)) string_type []
    -- C : d a .., where C is a constructor of d, a datatype of as many types as a .., and holds nothing
    of_bare : {G : Sc} {p : Place} {s j : ℕ} {args : List Cn} {c : Cd}
        → AtConstructor G s j args c
        → c.holds ≡ None
        → PatTyped A G (pattern p (is_bare s j)) (at_types (basic s) args) []
    -- C q : d a .., where C is a constructor of d, a datatype of as many types as a .., and q : what C holds at a ..
    of_holding : {G : Sc} {p : Place} {s j : ℕ} {args : List Cn} {c : Cd} {held : Cn} {q : Pt} {ts : List Cn}
        → AtConstructor G s j args c
        → c.holds ≡ Some held
        → PatTyped A G q (held_at args held) ts
        → PatTyped A G (pattern p (is_holding s j q)) (at_types (basic s) args) ts
    -- {n = q, ..} : $[n = t, ..], where n :: Name and q : t for each field
    of_fields : {G : Sc} {p : Place} {fs : Pfs} {ps : Prs} {ts : List Cn}
        → PatFieldsTyped A G fs ps ts
        → PatTyped A G (pattern p (has_fields fs false)) (record_of (type_row ps)) ts
    -- {n = q, .., ...} : $([n = t, ..] ++ r), where n :: Name and q : t for each field
    of_more_fields : {G : Sc} {p : Place} {fs : Pfs} {ps : Prs} {r : Cn} {ts : List Cn}
        → PatFieldsTyped A G fs ps ts
        → PatTyped A G (pattern p (has_fields fs true)) (record_of (cat (type_row ps) r)) ts
    -- (q : t) : t, where t :: Type and q : t
    of_annotated : {G : Sc} {p : Place} {q : Pt} {t : Cn} {ts : List Cn}
        → Kinded G.kinds t types
        → PatTyped A G q t ts
        → PatTyped A G (pattern p (annotated q t)) t ts

  -- fields of a row, in their order
  pub data PatFieldsTyped (A : Asks) : Sc → Pfs → Prs → List Cn → Type 0 where
    -- {}
    of_none : {G : Sc} → PatFieldsTyped A G no_pat_fields no_pairs []
    -- {n = q, ..}, where n :: Name and q : t; what later fields bind is further in
    of_one : {G : Sc} {p : Place} {n t : Cn} {q : Pt} {fs : Pfs} {ps : Prs} {ts us : List Cn}
        → Kinded G.kinds n names
        → PatTyped A G q t ts
        → PatFieldsTyped A G fs ps us
        → PatFieldsTyped A G (pat_field p n q fs) (pair n t ps) (us ++ ts)
