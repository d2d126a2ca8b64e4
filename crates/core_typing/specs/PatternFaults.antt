-- Patterns matched against a type: what they bind, or what is at fault in them.
use Rattle.std.specs.Prelude.{◌≡◌, ℕ, zero, suc, ℤ, Bool, true, false, List, [], ◌∷◌, ◌++◌, Some, None, slice_get}
use Rattle.con_terms.specs.Trees.{types, names, Cn, basic, arrow, unit_con, record_of, no_pairs}
use Rattle.con_terms.specs.declared.place.Place.{Place}
use Rattle.row_normal.specs.Ordered.{ordered_pieces, joined, glued}
use Rattle.core_terms.specs.Trees.{Pt, pattern, any, binds, is_number, is_text, is_bare, is_holding, has_fields, annotated, Pfs, no_pat_fields, pat_field, Cd, Dt, arity}
use Rattle.core_terms.specs.Types.{int_type, string_type, unit_type, one_field, type_row, at_types}
use Rattle.core_terms.specs.Datatypes.{datatype_of, held_at}
use Rattle.core_typing.specs.Scopes.{Sc, normal_of}
use Rattle.core_typing.specs.Seen.{a_datatype, seen}
use Rattle.core_typing.specs.Faults.{Fault, unbound, a_constructor, mismatch, too_large}
use Rattle.core_typing.specs.Judged.{HasKind, LacksKind}
use Rattle.core_typing.specs.Compared.{Alike, Differ, Large, field_of}

-- the record of the pieces that are left of a row
abbrev pub left_over : List Cn → Cn
left_over ps = record_of (joined types (glued ps))

-- a type that takes so many arguments, none of which is told
abbrev pub untold : ℕ → List Cn
untold zero = []
untold (suc n) = unit_con ∷ untold n

-- the constructor at a place of a datatype
pub record Constructs (G : Sc) (s j : ℕ) (d : Dt) (c : Cd) : Type 0 where
  pub declared : datatype_of G.datatypes s ≡ Some d
  pub constructor : slice_get d.constructors j ≡ Some c

-- a datatype's type has this constructor, at these arguments
pub record AtData (G : Sc) (s j : ℕ) (t : Cn) (c : Cd) (args : List Cn) : Type 0 where
  pub d : Dt
  pub n : Cn
  pub constructs : Constructs G s j d c
  pub normal : normal_of t ≡ Some n
  pub at_datatype : seen G.datatypes n ≡ a_datatype d args

mutual
  -- what a pattern binds at a type, the innermost first
  pub data PatFound : Sc → Pt → Cn → List Cn → Type 0 where
    -- _
    any_binds : {G : Sc} {p : Place} {t : Cn} → PatFound G (pattern p any) t []
    -- x : u, where u :: Type, and t is u
    binds_one : {G : Sc} {p : Place} {x : ℕ} {t u : Cn}
        → HasKind G u types
        → Alike t u
        → PatFound G (pattern p (binds x u)) t (u ∷ [])
    -- 1, where t is int
    number_binds : {G : Sc} {p : Place} {z : ℤ} {t : Cn}
        → Alike t int_type
        → PatFound G (pattern p (is_number z)) t []
    -- "a", where t is string
    text_binds : {G : Sc} {p : Place} {w : List ℕ} {t : Cn}
        → Alike t string_type
        → PatFound G (pattern p (is_text w)) t []
    -- C, where t is d a .., whose constructor C holds nothing
    bare_binds : {G : Sc} {p : Place} {s j : ℕ} {t : Cn} {c : Cd} {args : List Cn}
        → AtData G s j t c args
        → c.holds ≡ None
        → PatFound G (pattern p (is_bare s j)) t []
    -- C q, where t is d a .., and q is found at what its constructor C holds at a ..
    holding_binds : {G : Sc} {p : Place} {s j : ℕ} {t held : Cn} {c : Cd} {args ts : List Cn} {q : Pt}
        → AtData G s j t c args
        → c.holds ≡ Some held
        → PatFound G q (held_at args held) ts
        → PatFound G (pattern p (is_holding s j q)) t ts
    -- {n = q, ..}, where t is $r, and these are all fields of r
    fields_bind : {G : Sc} {p : Place} {fs : Pfs} {t r : Cn} {ts : List Cn}
        → normal_of t ≡ Some (record_of r)
        → PatFieldsFound G fs (ordered_pieces r) [] ts
        → PatFound G (pattern p (has_fields fs false)) t ts
    -- {n = q, .., ...}, where t is $r, and these are fields of r
    more_fields_bind : {G : Sc} {p : Place} {fs : Pfs} {t r : Cn} {rest ts : List Cn}
        → normal_of t ≡ Some (record_of r)
        → PatFieldsFound G fs (ordered_pieces r) rest ts
        → PatFound G (pattern p (has_fields fs true)) t ts
    -- (q : u), where u :: Type, t is u, and q is found at u
    annotated_binds : {G : Sc} {p : Place} {q : Pt} {t u : Cn} {ts : List Cn}
        → HasKind G u types
        → Alike t u
        → PatFound G q u ts
        → PatFound G (pattern p (annotated q u)) t ts

  -- fields among the pieces of a row, and the pieces that are left
  pub data PatFieldsFound : Sc → Pfs → List Cn → List Cn → List Cn → Type 0 where
    -- {}, with all pieces left
    none_bind : {G : Sc} {ps : List Cn} → PatFieldsFound G no_pat_fields ps ps []
    -- n = q, .., where n :: Name is a field of the pieces, and q is found at its type
    one_binds : {G : Sc} {p : Place} {n m v : Cn} {q : Pt} {fs : Pfs} {ps qs rs ts us : List Cn}
        → HasKind G n names
        → normal_of n ≡ Some m
        → field_of m ps ≡ Some (v, qs)
        → PatFound G q v ts
        → PatFieldsFound G fs qs rs us
        → PatFieldsFound G (pat_field p n q fs) ps rs (us ++ ts)

mutual
  -- what is at fault in a pattern at a type
  pub data PatFault : Sc → Pt → Cn → Fault → Type 0 where
    -- x : u, where u hasn't the kind Type
    bad_kind : {G : Sc} {p : Place} {x : ℕ} {t u : Cn} {f : Fault}
        → LacksKind G p u types f
        → PatFault G (pattern p (binds x u)) t f
    -- x : u, where u :: Type, and t is another
    other_type : {G : Sc} {p : Place} {x : ℕ} {t u m n : Cn}
        → HasKind G u types
        → Differ t u m n
        → PatFault G (pattern p (binds x u)) t (mismatch p G.called m n)
    -- x : u, where u :: Type, and comparing t and u is too large
    large_type : {G : Sc} {p : Place} {x : ℕ} {t u : Cn}
        → HasKind G u types
        → Large t u
        → PatFault G (pattern p (binds x u)) t (too_large p)
    -- 1, where t isn't int
    no_number : {G : Sc} {p : Place} {z : ℤ} {t m n : Cn}
        → Differ t int_type m n
        → PatFault G (pattern p (is_number z)) t (mismatch p G.called m n)
    -- 1, where comparing t and int is too large
    large_number : {G : Sc} {p : Place} {z : ℤ} {t : Cn}
        → Large t int_type
        → PatFault G (pattern p (is_number z)) t (too_large p)
    -- "a", where t isn't string
    no_text : {G : Sc} {p : Place} {w : List ℕ} {t m n : Cn}
        → Differ t string_type m n
        → PatFault G (pattern p (is_text w)) t (mismatch p G.called m n)
    -- "a", where comparing t and string is too large
    large_text : {G : Sc} {p : Place} {w : List ℕ} {t : Cn}
        → Large t string_type
        → PatFault G (pattern p (is_text w)) t (too_large p)
    -- a constructor: unknown, of another datatype, or alone where it holds something and the other way round
    -- C, where there is no such constructor
    no_bare : {G : Sc} {p : Place} {s j : ℕ} {t : Cn}
        → ((d : Dt) (c : Cd) → Constructs G s j d c → ⊥)
        → PatFault G (pattern p (is_bare s j)) t (unbound p (a_constructor s j))
    -- C q, where there is no such constructor
    no_holding : {G : Sc} {p : Place} {s j : ℕ} {q : Pt} {t : Cn}
        → ((d : Dt) (c : Cd) → Constructs G s j d c → ⊥)
        → PatFault G (pattern p (is_holding s j q)) t (unbound p (a_constructor s j))
    -- C, where t is no d a .. of C's datatype d
    other_bare : {G : Sc} {p : Place} {s j : ℕ} {t n : Cn} {d : Dt} {c : Cd}
        → Constructs G s j d c
        → normal_of t ≡ Some n
        → ((args : List Cn) → seen G.datatypes n ≡ a_datatype d args → ⊥)
        → PatFault G (pattern p (is_bare s j)) t (mismatch p G.called n (at_types (basic s) (untold (arity d))))
    -- C q, where t is no d a .. of C's datatype d
    other_holding : {G : Sc} {p : Place} {s j : ℕ} {q : Pt} {t n : Cn} {d : Dt} {c : Cd}
        → Constructs G s j d c
        → normal_of t ≡ Some n
        → ((args : List Cn) → seen G.datatypes n ≡ a_datatype d args → ⊥)
        → PatFault G (pattern p (is_holding s j q)) t (mismatch p G.called n (at_types (basic s)
        (untold (arity d))))
    -- C, where the normal form of t is too large
    large_bare : {G : Sc} {p : Place} {s j : ℕ} {t : Cn}
        → normal_of t ≡ None
        → PatFault G (pattern p (is_bare s j)) t (too_large p)
    -- C q, where the normal form of t is too large
    large_holding : {G : Sc} {p : Place} {s j : ℕ} {q : Pt} {t : Cn}
        → normal_of t ≡ None
        → PatFault G (pattern p (is_holding s j q)) t (too_large p)
    -- C, where t is d a .., and C holds something
    holds_more : {G : Sc} {p : Place} {s j : ℕ} {t n held m : Cn} {c : Cd} {args : List Cn}
        → AtData G s j t c args
        → c.holds ≡ Some held
        → normal_of t ≡ Some n
        → normal_of (held_at args held) ≡ Some m
        → PatFault G (pattern p (is_bare s j)) t (mismatch p G.called n (arrow m n))
    -- C, where t is d a .., and C holds something, of a type whose normal form is too large
    holds_too_much : {G : Sc} {p : Place} {s j : ℕ} {t held : Cn} {c : Cd} {args : List Cn}
        → AtData G s j t c args
        → c.holds ≡ Some held
        → normal_of (held_at args held) ≡ None
        → PatFault G (pattern p (is_bare s j)) t (too_large p)
    -- C q, where t is d a .., and C holds nothing
    holds_less : {G : Sc} {p : Place} {s j : ℕ} {q : Pt} {t n : Cn} {c : Cd} {args : List Cn}
        → AtData G s j t c args
        → c.holds ≡ None
        → normal_of t ≡ Some n
        → PatFault G (pattern p (is_holding s j q)) t (mismatch p G.called (arrow unit_con n) n)
    -- C q, where t is d a .., and q has a fault at what C holds at a ..
    in_held : {G : Sc} {p : Place} {s j : ℕ} {q : Pt} {t held : Cn} {c : Cd} {args : List Cn} {f : Fault}
        → AtData G s j t c args
        → c.holds ≡ Some held
        → PatFault G q (held_at args held) f
        → PatFault G (pattern p (is_holding s j q)) t f
    -- a record: another type, a field's fault, or fields that are left, where none should be
    -- {n = q, ..}, where t is no record
    no_record : {G : Sc} {p : Place} {fs : Pfs} {b : Bool} {t n : Cn}
        → normal_of t ≡ Some n
        → ((r : Cn) → n ≡ record_of r → ⊥)
        → PatFault G (pattern p (has_fields fs b)) t (mismatch p G.called n (record_of (type_row no_pairs)))
    -- {n = q, ..}, where the normal form of t is too large
    large_record : {G : Sc} {p : Place} {fs : Pfs} {b : Bool} {t : Cn}
        → normal_of t ≡ None
        → PatFault G (pattern p (has_fields fs b)) t (too_large p)
    -- {n = q, ..}, where t is $r, and a field has a fault among the pieces of r
    in_fields : {G : Sc} {p : Place} {fs : Pfs} {b : Bool} {t r : Cn} {f : Fault}
        → normal_of t ≡ Some (record_of r)
        → PatFieldsFault G fs (ordered_pieces r) f
        → PatFault G (pattern p (has_fields fs b)) t f
    -- {n = q, ..}, where t is $r, and pieces of r are left
    fields_left : {G : Sc} {p : Place} {fs : Pfs} {t r c : Cn} {rest ts : List Cn}
        → normal_of t ≡ Some (record_of r)
        → PatFieldsFound G fs (ordered_pieces r) (c ∷ rest) ts
        → PatFault G (pattern p (has_fields fs false)) t (mismatch p G.called (left_over (c ∷ rest)) unit_type)
    -- (q : u), where u hasn't the kind Type
    bad_annotation : {G : Sc} {p : Place} {q : Pt} {t u : Cn} {f : Fault}
        → LacksKind G p u types f
        → PatFault G (pattern p (annotated q u)) t f
    -- (q : u), where u :: Type, and t is another
    other_annotation : {G : Sc} {p : Place} {q : Pt} {t u m n : Cn}
        → HasKind G u types
        → Differ t u m n
        → PatFault G (pattern p (annotated q u)) t (mismatch p G.called m n)
    -- (q : u), where u :: Type, and comparing t and u is too large
    large_annotation : {G : Sc} {p : Place} {q : Pt} {t u : Cn}
        → HasKind G u types
        → Large t u
        → PatFault G (pattern p (annotated q u)) t (too_large p)
    -- (q : u), where u :: Type, and q has a fault at u
    in_annotated : {G : Sc} {p : Place} {q : Pt} {t u : Cn} {f : Fault}
        → HasKind G u types
        → PatFault G q u f
        → PatFault G (pattern p (annotated q u)) t f

  pub data PatFieldsFault : Sc → Pfs → List Cn → Fault → Type 0 where
    -- n = q, .., where n hasn't the kind Name
    bad_name : {G : Sc} {p : Place} {n : Cn} {q : Pt} {fs : Pfs} {ps : List Cn} {f : Fault}
        → LacksKind G p n names f
        → PatFieldsFault G (pat_field p n q fs) ps f
    -- n = q, .., where the normal form of n is too large
    large_name : {G : Sc} {p : Place} {n : Cn} {q : Pt} {fs : Pfs} {ps : List Cn}
        → normal_of n ≡ None
        → PatFieldsFault G (pat_field p n q fs) ps (too_large p)
    -- n = q, .., where n :: Name is no field of the pieces
    no_field : {G : Sc} {p : Place} {n m : Cn} {q : Pt} {fs : Pfs} {ps : List Cn}
        → HasKind G n names
        → normal_of n ≡ Some m
        → field_of m ps ≡ None
        → PatFieldsFault G (pat_field p n q fs) ps (mismatch p G.called (left_over ps) (record_of
        (one_field m unit_con)))
    -- n = q, .., where n is a field of the pieces, and q has a fault at its type
    in_field : {G : Sc} {p : Place} {n m v : Cn} {q : Pt} {fs : Pfs} {ps qs : List Cn} {f : Fault}
        → HasKind G n names
        → normal_of n ≡ Some m
        → field_of m ps ≡ Some (v, qs)
        → PatFault G q v f
        → PatFieldsFault G (pat_field p n q fs) ps f
    -- n = q, .., where n is a field of the pieces: a fault of a later field among the others
    in_later_field : {G : Sc} {p : Place} {n m v : Cn} {q : Pt} {fs : Pfs} {ps qs : List Cn} {f : Fault}
        → HasKind G n names
        → normal_of n ≡ Some m
        → field_of m ps ≡ Some (v, qs)
        → PatFieldsFault G fs qs f
        → PatFieldsFault G (pat_field p n q fs) ps f
