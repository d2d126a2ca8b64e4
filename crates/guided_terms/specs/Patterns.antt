-- Which pattern of the explicit language a pattern of the source is, where it is matched with a type; the types of what
-- it binds, the innermost first; and the type that it tells itself.
-- The Ur/Web Manual, "Pattern Typing".
use Rattle.std.specs.Prelude.{◌≡◌, ℕ, Bool, true, false, List, [], ◌∷◌, ◌++◌, Some}
use Rattle.con_terms.specs.Trees.{types, names, Cn, basic, record_of, Prs, no_pairs, pair}
use Rattle.con_terms.specs.declared.place.Place.{Place}
use Rattle.core_terms.specs.Datatypes.{held_at}
use Rattle.core_terms.specs.Trees.{Pt, pattern, any, binds, is_number, is_bare, is_holding, has_fields, annotated, Pfs, no_pat_fields, pat_field, Cd}
use Rattle.core_terms.specs.Trees as core
use Rattle.core_terms.specs.Types.{int_type, string_type, type_row, at_types}
use Rattle.core_typing.specs.Patterns.{AtConstructor}
use Rattle.plain_tree.specs.declared.names.Builder.{Builder}
use Rattle.plain_tree.specs.declared.names.Builder.TheVariants as builder
use Rattle.plain_tree.specs.Trees.{ConTree, PatTree, pat, PatFormTree, pat_any, pat_bind, pat_int, pat_words, pat_bare, pat_holding, pat_rec, pat_typed, PatFieldsTree, more_pat_fields}
use Rattle.plain_tree.specs.Trees as plain
use Rattle.source_names.specs.Scopes.{Words, Scope}
use Rattle.source_names.specs.Standing.{is_text, names_builder, names_basis_builder}
use Rattle.guided_terms.specs.Forms.{head_of, steps_of, record_pieces, named_field}
use Rattle.guided_terms.specs.Heres.{Here, IsCon}
use Rattle.guided_terms.specs.Leaves.{number_of}
use Rattle.guided_terms.specs.Wanted.{Want, wanted_parameter}

abbrev mutual
  -- the variables that a pattern binds, in order
  pub pattern_names : PatTree → List Words
  pattern_names (pat at f) = form_names f

  pub form_names : PatFormTree → List Words
  form_names (pat_bind x) = x ∷ []
  form_names (pat_holding b p) = pattern_names p
  form_names (pat_rec fs more) = fields_names fs
  form_names (pat_typed p c) = pattern_names p
  form_names _ = []

  pub fields_names : PatFieldsTree → List Words
  fields_names plain.no_pat_fields = []
  fields_names (more_pat_fields (plain.pat_field at c p) fs) = pattern_names p ++ fields_names fs

-- whether a constructor of a pattern is that of a datatype: the datatype's symbol, and its place in it
abbrev pub is_builder : Scope → Builder → ℕ → ℕ → Bool
is_builder s (builder.Named p) d i = names_builder s p d i
is_builder s (builder.Basis b) d i = names_basis_builder s b d i

mutual
  -- the type that a pattern tells itself: numbers, texts, what has its type written, and closed records of these
  pub data OwnType (h : Here) : PatTree → Cn → Type 0 where
    -- 3
    of_number : {at : ℕ} {minus : Bool} {n : ℕ} → OwnType h (pat at (pat_int minus n)) int_type
    -- "text"
    of_words : {at : ℕ} {w : Words} → OwnType h (pat at (pat_words w)) string_type
    -- (p : c)
    of_written : {at : ℕ} {p : PatTree} {c : ConTree} {t : Cn}
        (written : IsCon h c types t)
        → OwnType h (pat at (pat_typed p c)) t
    -- {c = p, ..}, and ()
    of_record : {at : ℕ} {fs : PatFieldsTree} {ps : Prs}
        (fields : OwnFields h fs ps)
        → OwnType h (pat at (pat_rec fs false)) (record_of (type_row ps))

  pub data OwnFields (h : Here) : PatFieldsTree → Prs → Type 0 where
    of_none : OwnFields h plain.no_pat_fields no_pairs
    of_one : {at : ℕ} {c : ConTree} {p : PatTree} {fs : PatFieldsTree} {n t : Cn} {ps : Prs}
        (name : IsCon h c names n)
        (field : OwnType h p t)
        (others : OwnFields h fs ps)
        → OwnFields h (more_pat_fields (plain.pat_field at c p) fs) (pair n t ps)

-- The type of a parameter: the one that its pattern tells, or else that of the parameter of the wanted function type.
pub data ParameterType (h : Here) (w : Want) (p : PatTree) : Cn → Type 0 where
  of_pattern : {t : Cn}
      (own : OwnType h p t)
      → ParameterType h w p t
  of_wanted : {t : Cn}
      (tells_none : (u : Cn) → OwnType h p u → ⊥)
      (wanted : wanted_parameter w ≡ Some t)
      → ParameterType h w p t

mutual
  -- a pattern of the source, matched with a type, is this one, and what it binds has these types
  pub data PatGuided (h : Here) : PatTree → Cn → Pt → List Cn → Type 0 where
    -- _
    any_value : {at : ℕ} {t : Cn} {p : Place} → PatGuided h (pat at pat_any) t (pattern p any) []
    -- x, which has the type of the value that is matched
    a_variable : {at x : ℕ} {w : Words} {t : Cn} {p : Place}
        (name : is_text h.names.tables x w ≡ true)
        → PatGuided h (pat at (pat_bind w)) t (pattern p (binds x t)) (t ∷ [])
    -- 3, -3
    a_number : {at n : ℕ} {minus : Bool} {t : Cn} {p : Place}
        → PatGuided h (pat at (pat_int minus n)) t (pattern p (is_number (number_of minus n))) []
    -- "text"
    some_words : {at : ℕ} {w : Words} {t : Cn} {p : Place}
        → PatGuided h (pat at (pat_words w)) t (pattern p (core.is_text w)) []
    -- X
    bare : {at s j : ℕ} {b : Builder} {t : Cn} {p : Place}
        (constructor : is_builder h.names b s j ≡ true)
        → PatGuided h (pat at (pat_bare b)) t (pattern p (is_bare s j)) []
    -- X p, where X is a constructor of d, d c .. is matched, and p is matched with what X holds at c ..
    holding : {at s j : ℕ} {b : Builder} {r : PatTree} {t held : Cn} {args : List Cn} {c : Cd} {p : Place} {q : Pt}
        {ts : List Cn}
        (constructor : is_builder h.names b s j ≡ true)
        (form : head_of t ≡ Some (at_types (basic s) args))
        (declared : AtConstructor h.types s j args c)
        (holds : c.holds ≡ Some held)
        (inner : PatGuided h r (held_at args held) q ts)
        → PatGuided h (pat at (pat_holding b r)) t (pattern p (is_holding s j q)) ts
    -- {c = p, ..}, {c = p, .., ...}, where a record is matched
    some_fields : {at : ℕ} {fs : PatFieldsTree} {more : Bool} {t : Cn} {pieces : List Cn} {p : Place} {gs : Pfs}
        {ts : List Cn}
        (form : record_pieces t ≡ Some pieces)
        (fields : PatFieldsGuided h fs pieces gs ts)
        → PatGuided h (pat at (pat_rec fs more)) t (pattern p (has_fields gs more)) ts
    -- (p : c), where p is matched with c
    with_type : {at : ℕ} {r : PatTree} {c : ConTree} {t u : Cn} {p : Place} {q : Pt} {ts : List Cn}
        (written : IsCon h c types u)
        (inner : PatGuided h r u q ts)
        → PatGuided h (pat at (pat_typed r c)) t (pattern p (annotated q u)) ts

  -- fields in order, each matched with the field of its name that is left among the record's
  pub data PatFieldsGuided (h : Here) : PatFieldsTree → List Cn → Pfs → List Cn → Type 0 where
    no_field : {ps : List Cn} → PatFieldsGuided h plain.no_pat_fields ps no_pat_fields []
    -- c = p; what later fields bind is further in
    one_field : {at : ℕ} {c : ConTree} {r : PatTree} {fs : PatFieldsTree} {ps rest ts us : List Cn} {n v : Cn}
        {p : Place} {q : Pt} {gs : Pfs}
        (name : IsCon h c names n)
        (taken : named_field (steps_of n) ps ≡ Some (v, rest))
        (inner : PatGuided h r v q ts)
        (others : PatFieldsGuided h fs rest gs us)
        → PatFieldsGuided h (more_pat_fields (plain.pat_field at c r) fs) ps (pat_field p n q gs) (us ++ ts)
