-- Which types' values a link, a form or a cookie can carry. Types are looked at by their normal forms.
use Rattle.std.specs.Prelude.{◌≡◌, ℕ, suc, ◌<◌, List, [], ◌∷◌, Some, ◌⊎◌}
use Rattle.std.specs.List.{Contains}
use Rattle.con_terms.specs.Trees.{Cn, var, arrow, record_of, name, Prs, no_pairs, pair}
use Rattle.core_terms.specs.Trees.{Cd, Dt, arity}
use Rattle.core_terms.specs.Types.{string_type, bool_type, transaction_of, page_type, type_row}
use Rattle.core_terms.specs.Datatypes.{datatype_of}
use Rattle.core_typing.specs.Scopes.{normal_of}
use Rattle.core_typing.specs.Seen.{a_number, a_text, a_datatype, seen}
use Rattle.core_typing.specs.Compared.{Alike}

mutual
  -- built of int, string, records, and datatypes of a list; in a datatype of so many parameters, of these too
  pub data CarriedBy : List Dt → List ℕ → ℕ → Cn → Type 0 where
    -- int
    as_int : {ds : List Dt} {S : List ℕ} {k : ℕ} {t n : Cn}
        → normal_of t ≡ Some n
        → seen ds n ≡ a_number
        → CarriedBy ds S k t
    -- string
    as_string : {ds : List Dt} {S : List ℕ} {k : ℕ} {t n : Cn}
        → normal_of t ≡ Some n
        → seen ds n ≡ a_text
        → CarriedBy ds S k t
    -- $[n = t, ..], where each t is carried
    as_record : {ds : List Dt} {S : List ℕ} {k : ℕ} {t : Cn} {ps : Prs}
        → normal_of t ≡ Some (record_of (type_row ps))
        → FieldsCarried ds S k ps
        → CarriedBy ds S k t
    -- d t .., where d is a datatype of the list, and each t is carried
    as_datatype : {ds : List Dt} {S : List ℕ} {k : ℕ} {t n : Cn} {d : Dt} {args : List Cn}
        → normal_of t ≡ Some n
        → seen ds n ≡ a_datatype d args
        → Contains S d.symbol
        → AllCarried ds S k args
        → CarriedBy ds S k t
    -- a, a parameter of the datatype
    as_parameter : {ds : List Dt} {S : List ℕ} {k i : ℕ} {t : Cn}
        → normal_of t ≡ Some (var i)
        → i < k
        → CarriedBy ds S k t

  pub data FieldsCarried : List Dt → List ℕ → ℕ → Prs → Type 0 where
    -- []
    no_fields_are : {ds : List Dt} {S : List ℕ} {k : ℕ} → FieldsCarried ds S k no_pairs
    -- [n = t, ..], where t is carried
    a_field_is : {ds : List Dt} {S : List ℕ} {k x : ℕ} {t : Cn} {ps : Prs}
        → CarriedBy ds S k t
        → FieldsCarried ds S k ps
        → FieldsCarried ds S k (pair (name x) t ps)

  pub data AllCarried : List Dt → List ℕ → ℕ → List Cn → Type 0 where
    -- no type
    none_are : {ds : List Dt} {S : List ℕ} {k : ℕ} → AllCarried ds S k []
    -- t .., where t is carried
    one_is : {ds : List Dt} {S : List ℕ} {k : ℕ} {t : Cn} {ts : List Cn}
        → CarriedBy ds S k t
        → AllCarried ds S k ts
        → AllCarried ds S k (t ∷ ts)

-- what each constructor of each datatype of the list holds is itself so built
abbrev pub IsClosed : List Dt → List ℕ → Type 0
IsClosed ds S = (s : ℕ)
    → Contains S s
    → (d : Dt) × (datatype_of ds s ≡ Some d) × ((c : Cd) (held : Cn) → Contains d.constructors c → c.holds ≡ Some
    held → CarriedBy ds S (arity d) held)

-- a link or a cookie can carry the type's values
abbrev pub Carried : List Dt → Cn → Type 0
Carried ds t = (S : List ℕ) × IsClosed ds S × CarriedBy ds S 0 t

-- a form can fill the type's values: a record of strings and bools
pub data FieldsFilled : Prs → Type 0 where
  -- []
  no_field : FieldsFilled no_pairs
  -- [n = t, ..], where t is string or bool
  a_field : {x : ℕ} {t : Cn} {ps : Prs}
      → (t ≡ string_type) ⊎ (t ≡ bool_type)
      → FieldsFilled ps
      → FieldsFilled (pair (name x) t ps)

abbrev pub Filled : Cn → Type 0
Filled t = (ps : Prs) × (normal_of t ≡ Some (record_of (type_row ps))) × FieldsFilled ps

-- a type is a function of carried arguments, of this number, to an action that gives a page
pub data ShowsPage : List Dt → ℕ → Cn → Type 0 where
  -- transaction page, for no argument
  at_once : {ds : List Dt} {t : Cn}
      → Alike t (transaction_of page_type)
      → ShowsPage ds 0 t
  -- a -> b, where a is carried, and b shows a page for the other arguments
  takes_one : {ds : List Dt} {n : ℕ} {t a b : Cn}
      → normal_of t ≡ Some (arrow a b)
      → Carried ds a
      → ShowsPage ds n b
      → ShowsPage ds (suc n) t

-- or, behind those arguments, a function of a form
pub data SendsForm : List Dt → ℕ → Cn → Type 0 where
  -- a -> transaction page, where a form can fill a
  at_last : {ds : List Dt} {t a b : Cn}
      → normal_of t ≡ Some (arrow a b)
      → Filled a
      → Alike b (transaction_of page_type)
      → SendsForm ds 0 t
  -- a -> b, where a is carried, and b sends a form behind the other arguments
  behind_one : {ds : List Dt} {n : ℕ} {t a b : Cn}
      → normal_of t ≡ Some (arrow a b)
      → Carried ds a
      → SendsForm ds n b
      → SendsForm ds (suc n) t

-- a type takes so many carried arguments, and this is left of it
pub data CarriesTo : List Dt → ℕ → Cn → Cn → Type 0 where
  -- t, for no argument
  carries_none : {ds : List Dt} {t : Cn} → CarriesTo ds 0 t t
  -- a -> b, where a is carried, and u is left of b
  carries_one : {ds : List Dt} {n : ℕ} {t a b u : Cn}
      → normal_of t ≡ Some (arrow a b)
      → Carried ds a
      → CarriesTo ds n b u
      → CarriesTo ds (suc n) t u
