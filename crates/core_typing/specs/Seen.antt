-- What a type in normal form tells of its values.
use Rattle.std.specs.Prelude.{ℕ, ◌==◌, List, [], ◌∷◌, ◌++◌, length, Some, None, if◌then◌else◌}
use Rattle.con_terms.specs.Trees.{Cn, basic, record_of, app, name, row, cat, Prs, no_pairs, pair}
use Rattle.core_terms.specs.Names.{int_name, string_name}
use Rattle.core_terms.specs.Trees.{Dt, arity}
use Rattle.core_terms.specs.Datatypes.{datatype_of}

pub data Seen : Type 0 where
  a_number : Seen
  a_text : Seen
  -- a datatype at arguments
  a_datatype : Dt → List Cn → Seen
  -- a record with these fields, by their names in normal form, and perhaps others
  a_record : List (Cn × Cn) → Seen
  nothing_more : Seen

-- fields with literal names
abbrev pub literal_pairs : Prs → List (ℕ × Cn)
literal_pairs no_pairs = []
literal_pairs (pair (name s) v ps) = (s, v) ∷ literal_pairs ps
literal_pairs (pair n v ps) = literal_pairs ps

-- of a row in normal form
abbrev pub literal_fields : Cn → List (ℕ × Cn)
literal_fields (row k ps) = literal_pairs ps
literal_fields (cat a b) = literal_fields a ++ literal_fields b
literal_fields _ = []

-- all its fields, whatever their names
abbrev pub named_pairs : Prs → List (Cn × Cn)
named_pairs no_pairs = []
named_pairs (pair n v ps) = (n, v) ∷ named_pairs ps

abbrev pub named_fields : Cn → List (Cn × Cn)
named_fields (row k ps) = named_pairs ps
named_fields (cat a b) = named_fields a ++ named_fields b
named_fields _ = []

-- a datatype at arguments, where it has as many as it takes
abbrev pub seen_data : Dt → List Cn → Seen
seen_data d args = if length args == arity d then a_datatype d args else nothing_more

-- a basic type at arguments
abbrev pub seen_basic : List Dt → ℕ → List Cn → Seen
seen_basic ds s args =
    if s == int_name then a_number else
    if s == string_name then a_text else
    elim (datatype_of ds s) [ None ↦ nothing_more | Some d ↦ seen_data d args ]

-- the head of an application, and what it is applied to
abbrev pub seen_at : List Dt → Cn → List Cn → Seen
seen_at ds (basic s) args = seen_basic ds s args
seen_at ds (app f a) args = seen_at ds f (a ∷ args)
seen_at ds (record_of r) args = a_record (named_fields r)
seen_at ds _ args = nothing_more

abbrev pub seen : List Dt → Cn → Seen
seen ds t = seen_at ds t []
