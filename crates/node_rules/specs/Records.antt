-- What is found for records, their operations, and folders, as it is computed.
use Rattle.std.specs.Prelude.{◌≡◌, ℕ, Bool, true, false, List, [], ◌∷◌, ◌++◌, Option, Some, None, Result, Ok, Err}
use Rattle.con_terms.specs.Trees.{Kd, types, names, row_of, Cn, record_of, cat, app, basic, row, unit_con, Prs}
use Rattle.con_terms.specs.View.{pairs_from}
use Rattle.con_terms.specs.declared.place.Place.{Place}
use Rattle.row_normal.specs.Ordered.{ordered, ordered_pieces, joined, glued}
use Rattle.kind_rules.specs.Flaws.{Flw}
use Rattle.kind_rules.specs.Kinding.{judged_at}
use Rattle.kind_rules.specs.Compared.{comparison_units, normal_forms}
use Rattle.core_terms.specs.Types.{type_row, one_field}
use Rattle.core_typing.specs.Scopes.{Sc, normal_of, folder_of}
use Rattle.core_typing.specs.Compared.{field_of, without_pieces}
use Rattle.core_typing.specs.Faults.{Fault, unbound, a_folder, mismatch, too_large}
use Rattle.core_typing.specs.Judged.{flaw_at}
use Rattle.told_faults.specs.Computed.{Jd, typed, faulty, first, flawed, on_type, record_row}
use Rattle.judgements.specs.Comparisons.{meets, no_record}

-- the fields that have types so far, where all do; what is told of their terms, and of their names
pub record Rw : Type 0 where
  pub row : Option (List (Cn × Cn))
  pub kids : Option Fault
  pub own : Option Fault

abbrev pub no_fields_yet : Rw
no_fields_yet = record { row = Some []; kids = None; own = None }

abbrev pub with_value : Cn → Option Cn → List (Cn × Cn) → Option (List (Cn × Cn))
with_value n None done = None
with_value n (Some t) done = Some (done ++ (n, t) ∷ [])

abbrev pub with_named : Cn → Option Cn → Option (List (Cn × Cn)) → Option (List (Cn × Cn))
with_named n t None = None
with_named n t (Some done) = with_value n t done

abbrev pub with_kinded : Cn → Bool → Option Cn → Option (List (Cn × Cn)) → Option (List (Cn × Cn))
with_kinded n false t r = None
with_kinded n true t r = with_named n t r

abbrev pub is_kinded : Result Kd Flw → Bool
is_kinded (Ok k) = true
is_kinded (Err w) = false

-- {.., n = e}, from the name's kind
abbrev pub with_known : Sc → Place → Cn → Result Kd Flw → Jd → Rw → Rw
with_known G q n k j r = record {
  row = with_kinded n (is_kinded k) j.type r.row;
  kids = first r.kids j.told;
  own = first r.own (flawed G q k);
}

abbrev pub with_field : Sc → Place → Cn → Jd → Rw → Rw
with_field G q n j r = with_known G q n (judged_at G.kinds n names) j r

-- {n = e, ..}
abbrev pub of_whole : Sc → Place → Option Fault → Option Fault → Cn → Result Kd Flw → Jd
of_whole G p kids own r (Err w) = record { type = None; told = first kids (first own (Some (flaw_at p G.called w))) }
of_whole G p kids own r (Ok k) = record { type = Some (record_of r); told = first kids own }

abbrev pub of_row : Sc → Place → Option Fault → Option Fault → Option (List (Cn × Cn)) → Jd
of_row G p kids own None = record { type = None; told = first kids own }
of_row G p kids own (Some done) =
    of_whole G p kids own (type_row (pairs_from done)) (judged_at G.kinds (type_row (pairs_from done)) (row_of types))

abbrev pub of_fields : Sc → Place → Rw → Jd
of_fields G p r = of_row G p r.kids r.own r.row

-- what is told of a type where a record is wanted
abbrev pub record_told : Sc → Place → Option Cn → Option Fault
record_told G q o = on_type o (λ t. no_record G q (normal_of t))

-- what an operation on a record gives, or what is told where it gives nothing
pub record Pd : Type 0 where
  pub type : Option Cn
  pub own : Option Fault

abbrev pub no_value : Option Fault → Pd
no_value f = record { type = None; own = f }

abbrev pub a_value : Cn → Pd
a_value t = record { type = Some t; own = None }

-- the operations on one record: e.c, e -- c, e --- c
pub data Op : Type 0 where
  selects : Op
  cuts : Op
  cuts_row : Op

-- the kind of the operation's constructor
abbrev pub kind_for : Op → Kd
kind_for selects = names
kind_for cuts = names
kind_for cuts_row = row_of types

-- these pieces, joined and put in order, are they joined with their leading fields as one literal
abbrev pub Glues : List Cn → Type 0
Glues ps = ordered (joined types ps) ≡ joined types (glued ps)

-- the record of what is left
abbrev pub left_of : List Cn → Cn
left_of rest = record_of (ordered (joined types rest))

abbrev pub lacks_field : Sc → Place → Cn → Cn → Pd
lacks_field G p n r = no_value (Some (mismatch p G.called (record_of (one_field n unit_con)) (record_of r)))

-- e.c: the field's type
abbrev pub selected : Sc → Place → Cn → Cn → Option (Cn × List Cn) → Pd
selected G p n r None = lacks_field G p n r
selected G p n r (Some v) = a_value v.0

-- e -- c: the record without the field
abbrev pub cut : Sc → Place → Cn → Cn → Option (Cn × List Cn) → Pd
cut G p n r None = lacks_field G p n r
cut G p n r (Some v) = a_value (left_of v.1)

-- e --- c: the record without the row's pieces
abbrev pub row_cut : Sc → Place → Cn → Cn → Option (List Cn) → Pd
row_cut G p n r None = no_value (Some (mismatch p G.called (record_of n) (record_of r)))
row_cut G p n r (Some rest) = a_value (left_of rest)

-- with the normal form of the operation's constructor, on a record of a row
abbrev pub on_row : Op → Sc → Place → Cn → Cn → Pd
on_row selects G p n r = selected G p n r (field_of n (ordered_pieces r))
on_row cuts G p n r = cut G p n r (field_of n (ordered_pieces r))
on_row cuts_row G p n r = row_cut G p n r (without_pieces (ordered_pieces n) (ordered_pieces r))

abbrev pub on_head : Op → Sc → Place → Cn → Option Cn → Pd
on_head o G p n None = no_value None
on_head o G p n (Some r) = on_row o G p n r

abbrev pub on_forms : Op → Sc → Place → Result (Cn × Cn) Flw → Pd
on_forms o G p (Err w) = no_value (Some (too_large p))
on_forms o G p (Ok mn) = on_head o G p mn.1 (record_row mn.0)

-- on a term's type: nothing where that is no record, or where the operation's constructor hasn't its kind
abbrev pub on_kinded : Op → Sc → Place → Cn → Cn → Bool → Pd
on_kinded o G p c t false = no_value None
on_kinded o G p c t true = on_forms o G p (normal_forms comparison_units t c)

abbrev pub on_record : Op → Sc → Place → Cn → Cn → Bool → Option Cn → Pd
on_record o G p c t k None = no_value None
on_record o G p c t k (Some r) = on_kinded o G p c t k

abbrev pub on_form : Op → Sc → Place → Cn → Cn → Bool → Option Cn → Pd
on_form o G p c t k None = no_value None
on_form o G p c t k (Some n) = on_record o G p c t k (record_row n)

abbrev pub operated : Op → Sc → Place → Cn → Bool → Option Cn → Pd
operated o G p c k None = no_value None
operated o G p c k (Some t) = on_form o G p c t k (normal_of t)

abbrev pub of_operated : Sc → Place → Place → Result Kd Flw → Jd → Pd → Jd
of_operated G p q k j d = record {
  type = d.type;
  told = first j.told (first (record_told G q j.type) (first (flawed G p k) d.own));
}

-- e.c, e -- c, e --- c, where e stands at q
abbrev pub of_operation : Op → Sc → Place → Place → Cn → Jd → Jd
of_operation o G p q c j =
    of_operated G p q (judged_at G.kinds c (kind_for o)) j
    (operated o G p c (is_kinded (judged_at G.kinds c (kind_for o))) j.type)

-- e ++ d: the rows of both, where both are records
abbrev pub unless_meet : Cn → Cn → Option Fault → Pd
unless_meet r s None = a_value (record_of (cat r s))
unless_meet r s (Some f) = no_value (Some f)

abbrev pub of_rows : Sc → Place → Option Cn → Option Cn → Pd
of_rows G p None s = no_value None
of_rows G p (Some r) None = no_value None
of_rows G p (Some r) (Some s) = unless_meet r s (meets G p r s)

abbrev pub row_of_form : Option Cn → Option Cn
row_of_form None = None
row_of_form (Some n) = record_row n

abbrev pub row_of_type : Option Cn → Option Cn
row_of_type None = None
row_of_type (Some t) = row_of_form (normal_of t)

abbrev pub of_joined : Sc → Place → Place → Jd → Jd → Pd → Jd
of_joined G q r j k d = record {
  type = d.type;
  told = first (first j.told k.told) (first (record_told G q j.type) (first (record_told G r k.type) d.own));
}

abbrev pub of_concat : Sc → Place → Place → Place → Jd → Jd → Jd
of_concat G p q r j k = of_joined G q r j k (of_rows G p (row_of_type j.type) (row_of_type k.type))

-- the folder of a row
abbrev pub folder_type : ℕ → Kd → Prs → Cn
folder_type s k ps = app (basic s) (row k ps)

abbrev pub of_folder_at : Sc → Place → Kd → Prs → Result Kd Flw → Option ℕ → Jd
of_folder_at G p k ps r None = record { type = None; told = first (Some (unbound p (a_folder k))) (flawed G p r) }
of_folder_at G p k ps (Err w) (Some s) = faulty (flaw_at p G.called w)
of_folder_at G p k ps (Ok l) (Some s) = typed (folder_type s k ps)

abbrev pub of_folder : Sc → Place → Kd → Prs → Jd
of_folder G p k ps = of_folder_at G p k ps (judged_at G.kinds (row k ps) (row_of k)) (folder_of G.folders k)
