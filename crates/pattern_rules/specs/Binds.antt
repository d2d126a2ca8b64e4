-- What patterns bind at a type, as it is computed, or the fault that is told of them.
use Rattle.std.specs.Prelude.{ℕ, Bool, true, false, ◌==◌, List, [], ◌∷◌, Option, Some, None, Result, Ok, Err, slice_get, if◌then◌else◌}
use Rattle.con_terms.specs.Trees.{Kd, types, names, Cn, basic, arrow, unit_con, record_of, no_pairs}
use Rattle.con_terms.specs.declared.place.Place.{Place}
use Rattle.row_normal.specs.Ordered.{ordered_pieces}
use Rattle.kind_rules.specs.Flaws.{Flw}
use Rattle.kind_rules.specs.Kinding.{judged_at}
use Rattle.core_terms.specs.Trees.{Pt, pattern, Pf, any, binds, is_number, is_text, is_bare, is_holding, has_fields, annotated, Pfs, no_pat_fields, pat_field, Cd, Dt, arity}
use Rattle.core_terms.specs.Types.{int_type, string_type, unit_type, one_field, type_row, at_types}
use Rattle.core_terms.specs.Datatypes.{datatype_of, held_at}
use Rattle.core_typing.specs.Scopes.{Sc, normal_of}
use Rattle.core_typing.specs.Seen.{Seen, a_datatype, seen}
use Rattle.core_typing.specs.Faults.{Fault, at, unbound, a_constructor, mismatch, too_large}
use Rattle.core_typing.specs.Judged.{flaw_at}
use Rattle.core_typing.specs.Compared.{field_of}
use Rattle.core_typing.specs.PatternFaults.{left_over, untold}
use Rattle.told_faults.specs.Computed.{sooner, wants, record_row}
use Rattle.judgements.specs.Bindings.{Bd, bind_these, bad_pattern}

-- the earlier of two faults; of two at one place the first
abbrev pub earlier : Fault → Fault → Fault
earlier f h = if sooner (at h) (at f) then h else f

-- these types, unless a fault is told
abbrev pub bind_unless : List Cn → Option Fault → Bd
bind_unless ts None = bind_these ts
bind_unless ts (Some f) = bad_pattern f

-- a variable, before what is bound already
abbrev pub bind_one : Sc → List Cn → Place → Cn → Cn → Result Kd Flw → Bd
bind_one G L p t u (Err w) = bad_pattern (flaw_at p G.called w)
bind_one G L p t u (Ok k) = bind_unless (u ∷ L) (wants G p t u)

-- the constructor that a pattern names, where the type is its datatype's: what it holds at the type's arguments, or
-- nothing, and the type's normal form; or what is told
pub data Da : Type 0 where
  bad_data : Fault → Da
  bare_data : Cn → Da
  holding_data : Cn → Cn → Da

abbrev pub held_data : Cn → List Cn → Option Cn → Da
held_data n args None = bare_data n
held_data n args (Some h) = holding_data n (held_at args h)

abbrev pub other_data : Sc → Place → ℕ → Dt → Cn → Da
other_data G p s d n = bad_data (mismatch p G.called n (at_types (basic s) (untold (arity d))))

abbrev pub seen_data : Sc → Place → ℕ → Dt → Cd → Cn → Seen → Da
seen_data G p s d c n (a_datatype e args) = if e.symbol == s then held_data n args c.holds else other_data G p s d n
seen_data G p s d c n _ = other_data G p s d n

abbrev pub formed_data : Sc → Place → ℕ → Dt → Cd → Option Cn → Da
formed_data G p s d c None = bad_data (too_large p)
formed_data G p s d c (Some n) = seen_data G p s d c n (seen G.datatypes n)

abbrev pub constructor_data : Sc → Place → ℕ → ℕ → Dt → Cn → Option Cd → Da
constructor_data G p s j d t None = bad_data (unbound p (a_constructor s j))
constructor_data G p s j d t (Some c) = formed_data G p s d c (normal_of t)

abbrev pub datatype_data : Sc → Place → ℕ → ℕ → Cn → Option Dt → Da
datatype_data G p s j t None = bad_data (unbound p (a_constructor s j))
datatype_data G p s j t (Some d) = constructor_data G p s j d t (slice_get d.constructors j)

abbrev pub data_at : Sc → Place → ℕ → ℕ → Cn → Da
data_at G p s j t = datatype_data G p s j t (datatype_of G.datatypes s)

-- a constructor alone
abbrev pub held_more : Sc → Place → Cn → Option Cn → Fault
held_more G p n None = too_large p
held_more G p n (Some m) = mismatch p G.called n (arrow m n)

abbrev pub bare_binding : Sc → List Cn → Place → Da → Bd
bare_binding G L p (bad_data f) = bad_pattern f
bare_binding G L p (bare_data n) = bind_these L
bare_binding G L p (holding_data n held) = bad_pattern (held_more G p n (normal_of held))

-- a constructor with a pattern of what it holds
abbrev pub holding_binding : Sc → Place → Da → (Cn → Bd) → Bd
holding_binding G p (bad_data f) go = bad_pattern f
holding_binding G p (bare_data n) go = bad_pattern (mismatch p G.called (arrow unit_con n) n)
holding_binding G p (holding_data n held) go = go held

-- (p : t), where what is told of the inner pattern counts too
abbrev pub also_told : Fault → Bd → Bd
also_told f (bind_these ts) = bad_pattern f
also_told f (bad_pattern h) = bad_pattern (earlier f h)

abbrev pub annotated_unless : Option Fault → Bd → Bd
annotated_unless None b = b
annotated_unless (Some f) b = also_told f b

abbrev pub annotated_binding : Sc → Place → Cn → Cn → Result Kd Flw → Bd → Bd
annotated_binding G p t u (Err w) b = bad_pattern (flaw_at p G.called w)
annotated_binding G p t u (Ok k) b = annotated_unless (wants G p t u) b

-- one field: nothing behind it can be looked at; it is at fault; or it binds. What is left of the row stands behind
pub data Of : Type 0 where
  stop_field : Fault → Of
  bad_field : Fault → List Cn → Of
  bound_field : List Cn → List Cn → Of

abbrev pub field_bound : List Cn → Bd → Of
field_bound rs (bind_these ts) = bound_field rs ts
field_bound rs (bad_pattern f) = bad_field f rs

abbrev pub no_field_there : Sc → Place → Cn → List Cn → Fault
no_field_there G p m ps = mismatch p G.called (left_over ps) (record_of (one_field m unit_con))

abbrev pub field_taken : Sc → Place → Cn → List Cn → Option (Cn × List Cn) → (Cn → Bd) → Of
field_taken G p m ps None go = stop_field (no_field_there G p m ps)
field_taken G p m ps (Some r) go = field_bound r.1 (go r.0)

abbrev pub field_named : Sc → Place → List Cn → Option Cn → (Cn → Bd) → Of
field_named G p ps None go = stop_field (too_large p)
field_named G p ps (Some m) go = field_taken G p m ps (field_of m ps) go

abbrev pub field_binding : Sc → Place → Cn → List Cn → Result Kd Flw → (Cn → Bd) → Of
field_binding G p n ps (Err w) go = stop_field (flaw_at p G.called w)
field_binding G p n ps (Ok k) go = field_named G p ps (normal_of n) go

-- what was told before, and a further fault
abbrev pub with_told : Option Fault → Fault → Fault
with_told None f = f
with_told (Some h) f = earlier h f

-- fields: the pieces that are left of the row and the types that are bound, or what is told
pub data Fb : Type 0 where
  bind_fields : List Cn → List Cn → Fb
  bad_fields : Fault → Fb

abbrev pub all_fields : Option Fault → List Cn → List Cn → Fb
all_fields None ps L = bind_fields ps L
all_fields (Some f) ps L = bad_fields f

abbrev pub after_field : Option Fault → List Cn → Of → (Option Fault → List Cn → List Cn → Fb) → Fb
after_field told L (stop_field f) go = bad_fields (with_told told f)
after_field told L (bad_field f rs) go = go (Some (with_told told f)) L rs
after_field told L (bound_field rs ts) go = go told ts rs

-- a record: fields that are left are told where none may be
abbrev pub rest_binding : Sc → Place → Bool → List Cn → List Cn → Bd
rest_binding G p true rs ts = bind_these ts
rest_binding G p false [] ts = bind_these ts
rest_binding G p false (c ∷ rs) ts = bad_pattern (mismatch p G.called (left_over (c ∷ rs)) unit_type)

abbrev pub whole_binding : Sc → Place → Bool → Fb → Bd
whole_binding G p more (bad_fields f) = bad_pattern f
whole_binding G p more (bind_fields rs ts) = rest_binding G p more rs ts

abbrev pub row_binding : Sc → Place → Bool → Cn → Option Cn → (List Cn → Fb) → Bd
row_binding G p more n None go = bad_pattern (mismatch p G.called n (record_of (type_row no_pairs)))
row_binding G p more n (Some r) go = whole_binding G p more (go (ordered_pieces r))

abbrev pub record_binding : Sc → Place → Bool → Option Cn → (List Cn → Fb) → Bd
record_binding G p more None go = bad_pattern (too_large p)
record_binding G p more (Some n) go = row_binding G p more n (record_row n) go

-- what a pattern binds at a type, before what is bound already
abbrev mutual
  pub binding : Sc → List Cn → Pt → Cn → Bd
  binding G L (pattern p f) t = form_binding G L p f t

  pub form_binding : Sc → List Cn → Place → Pf → Cn → Bd
  form_binding G L p any t = bind_these L
  form_binding G L p (binds x u) t = bind_one G L p t u (judged_at G.kinds u types)
  form_binding G L p (is_number z) t = bind_unless L (wants G p t int_type)
  form_binding G L p (is_text w) t = bind_unless L (wants G p t string_type)
  form_binding G L p (is_bare s j) t = bare_binding G L p (data_at G p s j t)
  form_binding G L p (is_holding s j q) t = holding_binding G p (data_at G p s j t) (λ u. binding G L q u)
  form_binding G L p (has_fields fs more) t =
      record_binding G p more (normal_of t) (λ ps. fields_binding G None L fs ps)
  form_binding G L p (annotated q u) t =
      annotated_binding G p t u (judged_at G.kinds u types) (binding G L q u)

  -- fields one after another, with what was told before and what is bound already
  pub fields_binding : Sc → Option Fault → List Cn → Pfs → List Cn → Fb
  fields_binding G told L no_pat_fields ps = all_fields told ps L
  fields_binding G told L (pat_field p n q fs) ps =
      after_field told L (field_binding G p n ps (judged_at G.kinds n names) (λ v. binding G L q v))
      (λ t M rs. fields_binding G t M fs rs)
