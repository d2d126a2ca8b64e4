-- What is told of records, field by field: {n = e, ..}.
use Rattle.std.proofs.Common.{◌≡◌, Bool, List, [], ◌∷◌, ◌++◌, Option, Some, None, Result, Err, refl, ap, sym, ◌∙◌, subst}
use Rattle.std.proofs.lemmas.List.{append_assoc, append-nil}
use Rattle.con_terms.specs.Trees.{Kd, types, names, row_of, Cn, record_of, Prs, no_pairs, pair, pair_list}
use Rattle.con_terms.specs.View.{pairs_from}
use Rattle.con_terms.specs.declared.place.Place.{Place}
use Rattle.kind_rules.specs.Flaws.{Flw}
use Rattle.kind_rules.specs.Kinding.{judged_at}
use Rattle.core_terms.specs.Trees.{Ex, node, fields_of, Fds, no_fields, field}
use Rattle.core_terms.specs.Lists.{field_list}
use Rattle.core_terms.specs.Types.{type_row}
use Rattle.core_typing.specs.Scopes.{Sc}
use Rattle.core_typing.specs.Asks.{no_cover}
use Rattle.core_typing.specs.Judged.{HasKind, LacksKind, lacks, flaw_at}
use Rattle.core_typing.specs.Faults.{Fault}
use Rattle.core_typing.specs.Found.{Found, FieldsFound, no_field_found, field_found, fields_have}
use Rattle.core_typing.specs.Own.{Own, FieldFault, field_kind, later_field}
use Rattle.core_typing.specs.Own as own
use Rattle.core_typing.specs.Tells.{Sub, field_term, InFields, this_field, past_field}
use Rattle.core_typing.proofs.Excluded.{kind_out}
use Rattle.core_typing.proofs.OneType.{one_row}
use Rattle.told_faults.specs.Computed.{Jd, first, flawed}
use Rattle.told_faults.specs.Heads.{Kindly, kindly, unkind}
use Rattle.told_faults.specs.Told.{TypeIs, Verdict, Picks, Nodes, Least, Or, or_first, or_second, Either, in_first, in_second, Only, only, Nowhere, Never}
use Rattle.told_faults.proofs.Parts.{kind_is, picks_flaw}
use Rattle.told_faults.proofs.Verdict.{picks_two, picks_as, picks_never, least_as, least_nowhere}
use Rattle.node_rules.specs.Records.{Rw, no_fields_yet, with_value, with_named, with_kinded, is_kinded, with_field, of_whole, of_row}
use Rattle.node_rules.proofs.Listed.{rebuilt}
use Rattle.judged_terms.specs.Listed.{fields_found, of_record}
use Rattle.told_terms.proofs.Wanted.{FieldsTold, Here, here_is}
use Rattle.told_terms.proofs.Verdicts.{whole}
use Rattle.told_terms.proofs.Beside.{least_more, least_rest, picks_rest, least_start, picks_start}

-- the nodes of some fields: the first one's term, and those of the others
one_of : (G : Sc) (q : Place) (n : Cn) (e : Ex) (fs : Fds) (H : Sc) (c : Ex) → Either (Only G e) (Here G (InFields fs)) H c → Here G (InFields (field q n e fs)) H c
one_of G q n e fs H c (in_first only) = here_is this_field
one_of G q n e fs H c (in_second (here_is x)) = here_is (past_field x)

apart_one : (G : Sc) (q : Place) (n : Cn) (e : Ex) (fs : Fds) (H : Sc) (c : Ex) → Here G (InFields (field q n e fs)) H c → Either (Only G e) (Here G (InFields fs)) H c
apart_one G q n e fs H c (here_is this_field) = in_first only
apart_one G q n e fs H c (here_is (past_field x)) = in_second (here_is x)

no_node : (G : Sc) (H : Sc) (c : Ex) → Here G (InFields no_fields) H c → ⊥
no_node G H c (here_is x) = elim x [ ]

no_fault : (G : Sc) (f : Fault) → FieldFault G no_fields f → ⊥
no_fault G f x = elim x [ ]

-- what is told of the terms, behind what is told of some nodes
least_end : (G : Sc) (N : Nodes) (k : Option Fault) → Least N k → Least (Either N (Here G (InFields no_fields))) k
least_end G N k h = least_as N (Either N (Here G (InFields no_fields))) k (λ H c x. in_first x) back h
  where
    back : (H : Sc) (c : Ex) → Either N (Here G (InFields no_fields)) H c → N H c
    back H c (in_first x) = x
    back H c (in_second x) = absurd (no_node G H c x)

kids_behind : (G : Sc) (fs : Fds) (js : List Jd) (r : Rw) (N : Nodes) → FieldsTold G fs js → Least N r.kids → Least (Either N (Here G (InFields fs))) (fields_found G js (field_list fs) r).kids
kids_behind G no_fields [] r N h l = least_end G N r.kids l
kids_behind G no_fields (j ∷ js) r N h l = absurd h
kids_behind G (field q n e fs) [] r N h l = absurd h
kids_behind G (field q n e fs) (j ∷ js) r N (v, h) l =
    least_rest N (Only G e) (Here G (InFields fs)) (Here G (InFields (field q n e fs)))
    (fields_found G js (field_list fs) (with_field G q n j r)).kids (one_of G q n e fs) (apart_one G q n e fs)
    (kids_behind G fs js (with_field G q n j r) (Either N (Only G e)) h (least_more N G e r.kids j l v))

-- what is told of the names, behind some faults
picks_end : (G : Sc) (P : Fault → Type 0) (k : Option Fault) → Picks P k → Picks (Or P (FieldFault G no_fields)) k
picks_end G P k h = picks_as P (Or P (FieldFault G no_fields)) k (λ f x. or_first x) back h
  where
    back : (f : Fault) → Or P (FieldFault G no_fields) f → P f
    back f (or_first x) = x
    back f (or_second x) = absurd (no_fault G f x)

name_fault : (G : Sc) (q : Place) (n : Cn) (e : Ex) (fs : Fds) (f : Fault) → Or (LacksKind G q n names) (FieldFault G fs) f → FieldFault G (field q n e fs) f
name_fault G q n e fs f (or_first x) = field_kind x
name_fault G q n e fs f (or_second x) = later_field x

name_or : (G : Sc) (q : Place) (n : Cn) (e : Ex) (fs : Fds) (f : Fault) → FieldFault G (field q n e fs) f → Or (LacksKind G q n names) (FieldFault G fs) f
name_or G q n e fs f (field_kind x) = or_first x
name_or G q n e fs f (later_field x) = or_second x

own_behind : (G : Sc) (fs : Fds) (js : List Jd) (r : Rw) (P : Fault → Type 0) → FieldsTold G fs js → Picks P r.own → Picks (Or P (FieldFault G fs)) (fields_found G js (field_list fs) r).own
own_behind G no_fields [] r P h l = picks_end G P r.own l
own_behind G no_fields (j ∷ js) r P h l = absurd h
own_behind G (field q n e fs) [] r P h l = absurd h
own_behind G (field q n e fs) (j ∷ js) r P (v, h) l =
    picks_rest P (LacksKind G q n names) (FieldFault G fs) (FieldFault G (field q n e fs))
    (fields_found G js (field_list fs) (with_field G q n j r)).own (name_fault G q n e fs) (name_or G q n e fs)
    (own_behind G fs js (with_field G q n j r) (Or P (LacksKind G q n names)) h
    (picks_two P (LacksKind G q n names) r.own (flawed G q (judged_at G.kinds n names)) l
    (picks_flaw G q n names (judged_at G.kinds n names) (kind_is G n names))))

-- the types of the fields, behind those of others: there are none where a field hasn't one
abbrev RowAfter : Sc → Fds → List (Cn × Cn) → Option (List (Cn × Cn)) → Type 0
RowAfter G fs done None = (ps : Prs) → FieldsFound no_cover G fs ps → ⊥
RowAfter G fs done (Some all) = (ps : Prs) × (FieldsFound no_cover G fs ps × (all ≡ done ++ pair_list ps))

abbrev RowBehind : Sc → Fds → Option (List (Cn × Cn)) → Option (List (Cn × Cn)) → Type 0
RowBehind G fs None o = o ≡ None
RowBehind G fs (Some done) o = RowAfter G fs done o

no_row : (G : Sc) (fs : Fds) (done : List (Cn × Cn)) (o : Option (List (Cn × Cn))) → o ≡ None → ((ps : Prs) → FieldsFound no_cover G fs ps → ⊥) → RowAfter G fs done o
no_row G fs done o h n = subst (λ (z : Option (List (Cn × Cn))). RowAfter G fs done z) (sym h) n

one_more : (G : Sc) (q : Place) (n : Cn) (e : Ex) (fs : Fds) (u : Cn) (done : List (Cn × Cn)) (o : Option (List (Cn × Cn))) → HasKind G n names → Found G e u → RowAfter G fs (done ++ (n, u) ∷ []) o → RowAfter G (field q n e fs) done o
one_more G q n e fs u done None k h x = none
  where
    none : (ps : Prs) → FieldsFound no_cover G (field q n e fs) ps → ⊥
    none no_pairs y = elim y [ ]
    none (pair m t ps) (field_found l g y) = x ps y
one_more G q n e fs u done (Some all) k h (ps, (y, i)) =
    (pair n u ps, (field_found k h y, i ∙ append_assoc done ((n, u) ∷ []) (pair_list ps)))

value_step : (G : Sc) (q : Place) (n : Cn) (e : Ex) (fs : Fds) (t : Option Cn) (done : List (Cn × Cn)) (o : Option (List (Cn × Cn))) → HasKind G n names → TypeIs G e t → RowBehind G fs (with_value n t done) o → RowAfter G (field q n e fs) done o
value_step G q n e fs None done o k v h = no_row G (field q n e fs) done o h none
  where
    none : (ps : Prs) → FieldsFound no_cover G (field q n e fs) ps → ⊥
    none ps (field_found {t = t} l g y) = v t g
value_step G q n e fs (Some u) done o k v h = one_more G q n e fs u done o k v h

named_step : (G : Sc) (q : Place) (n : Cn) (e : Ex) (fs : Fds) (t : Option Cn) (s o : Option (List (Cn × Cn))) → HasKind G n names → TypeIs G e t → RowBehind G fs (with_named n t s) o → RowBehind G (field q n e fs) s o
named_step G q n e fs t None o k v h = h
named_step G q n e fs t (Some done) o k v h = value_step G q n e fs t done o k v h

unkinded_step : (G : Sc) (q : Place) (n : Cn) (e : Ex) (fs : Fds) (w : Flw) (s o : Option (List (Cn × Cn))) → judged_at G.kinds n names ≡ Err w → o ≡ None → RowBehind G (field q n e fs) s o
unkinded_step G q n e fs w None o x h = h
unkinded_step G q n e fs w (Some done) o x h = no_row G (field q n e fs) done o h none
  where
    none : (ps : Prs) → FieldsFound no_cover G (field q n e fs) ps → ⊥
    none ps (field_found l g y) = kind_out l (lacks {p = q} x)

row_step : (G : Sc) (q : Place) (n : Cn) (e : Ex) (fs : Fds) (t : Option Cn) (s o : Option (List (Cn × Cn))) {k : Result Kd Flw} → Kindly G n names k → TypeIs G e t → RowBehind G fs (with_kinded n (is_kinded k) t s) o → RowBehind G (field q n e fs) s o
row_step G q n e fs t s o (kindly k) v h = named_step G q n e fs t s o k v h
row_step G q n e fs t s o (unkind {w = w} x) v h = unkinded_step G q n e fs w s o x h

row_end : (G : Sc) (s : Option (List (Cn × Cn))) → RowBehind G no_fields s s
row_end G None = refl
row_end G (Some done) = (no_pairs, (no_field_found, sym (append-nil done)))

row_behind : (G : Sc) (fs : Fds) (js : List Jd) (r : Rw) → FieldsTold G fs js → RowBehind G fs r.row (fields_found G js (field_list fs) r).row
row_behind G no_fields [] r h = row_end G r.row
row_behind G no_fields (j ∷ js) r h = absurd h
row_behind G (field q n e fs) [] r h = absurd h
row_behind G (field q n e fs) (j ∷ js) r (v, h) =
    row_step G q n e fs j.type r.row (fields_found G js (field_list fs) (with_field G q n j r)).row (kind_is G n names) v.type
    (row_behind G fs js (with_field G q n j r) h)

-- the nodes of the whole
part_there : (G : Sc) (p : Place) (a : Bool) (fs : Fds) (H : Sc) (c : Ex) → Here G (InFields fs) H c → Sub G (node p a (fields_of fs)) H c
part_there G p a fs H c (here_is x) = field_term x

part_back : (G : Sc) (p : Place) (a : Bool) (fs : Fds) (H : Sc) (c : Ex) → Sub G (node p a (fields_of fs)) H c → Here G (InFields fs) H c
part_back G p a fs H c (field_term x) = here_is x

-- names that aren't apart
pub record SameNames (G : Sc) (p : Place) (fs : Fds) (f : Fault) : Type 0 where
  pub pairs : Prs
  pub found : FieldsFound no_cover G fs pairs
  pub told : LacksKind G p (type_row pairs) (row_of types) f

own_there : (G : Sc) (p : Place) (a : Bool) (fs : Fds) (f : Fault) → Or (FieldFault G fs) (SameNames G p fs) f → Own G (node p a (fields_of fs)) f
own_there G p a fs f (or_first x) = own.a_field x
own_there G p a fs f (or_second x) = own.same_names x.found x.told

own_back : (G : Sc) (p : Place) (a : Bool) (fs : Fds) (f : Fault) → Own G (node p a (fields_of fs)) f → Or (FieldFault G fs) (SameNames G p fs) f
own_back G p a fs f (own.a_field x) = or_first x
own_back G p a fs f (own.same_names {ps = ps} h x) = or_second (record { pairs = ps; found = h; told = x })

-- where the names are apart, or have no types, only the fields count
fields_alone : (G : Sc) (p : Place) (a : Bool) (fs : Fds) (k : Option Fault) → ((f : Fault) → SameNames G p fs f → ⊥) → Picks (FieldFault G fs) k → Picks (Own G (node p a (fields_of fs))) k
fields_alone G p a fs k n h = picks_as (FieldFault G fs) (Own G (node p a (fields_of fs))) k (λ f x. own.a_field x) back h
  where
    by_part : (f : Fault) → Or (FieldFault G fs) (SameNames G p fs) f → FieldFault G fs f
    by_part f (or_first x) = x
    by_part f (or_second x) = absurd (n f x)

    back : (f : Fault) → Own G (node p a (fields_of fs)) f → FieldFault G fs f
    back f x = by_part f (own_back G p a fs f x)

with_names : (G : Sc) (p : Place) (a : Bool) (fs : Fds) (k l : Option Fault) → Picks (FieldFault G fs) k → Picks (SameNames G p fs) l → Picks (Own G (node p a (fields_of fs))) (first k l)
with_names G p a fs k l h i = picks_as (Or (FieldFault G fs) (SameNames G p fs)) (Own G (node p a (fields_of fs))) (first k l) (own_there G p a fs) (own_back G p a fs) (picks_two (FieldFault G fs) (SameNames G p fs) k l h i)

same_picked : (G : Sc) (p : Place) (fs : Fds) (ps : Prs) (o : Option Fault) → FieldsFound no_cover G fs ps → Picks (LacksKind G p (type_row ps) (row_of types)) o → Picks (SameNames G p fs) o
same_picked G p fs ps o h x = picks_as (LacksKind G p (type_row ps) (row_of types)) (SameNames G p fs) o there back x
  where
    there : (f : Fault) → LacksKind G p (type_row ps) (row_of types) f → SameNames G p fs f
    there f y = record { pairs = ps; found = h; told = y }

    back : (f : Fault) → SameNames G p fs f → LacksKind G p (type_row ps) (row_of types) f
    back f y = subst (λ z. LacksKind G p (type_row z) (row_of types) f) (one_row y.found h) y.told

-- the whole, from the kind of its row
with_kind : (G : Sc) (p : Place) (a : Bool) (fs : Fds) (kids named : Option Fault) (ps : Prs) {k : Result Kd Flw} → Least (Sub G (node p a (fields_of fs))) kids → Picks (FieldFault G fs) named → FieldsFound no_cover G fs ps → Kindly G (type_row ps) (row_of types) k → Verdict G (node p a (fields_of fs)) (of_whole G p kids named (type_row ps) k)
with_kind G p a fs kids named ps l h x (kindly k) = whole G (node p a (fields_of fs)) (Some (record_of (type_row ps))) kids named (fields_have x k) l (fields_alone G p a fs named none h)
  where
    none : (f : Fault) → SameNames G p fs f → ⊥
    none f y = kind_out k (subst (λ z. LacksKind G p (type_row z) (row_of types) f) (one_row y.found x) y.told)
with_kind G p a fs kids named ps l h x (unkind {w = w} e) = whole G (node p a (fields_of fs)) None kids (first named (Some (flaw_at p G.called w))) none l (with_names G p a fs named (Some (flaw_at p G.called w)) h (same_picked G p fs ps (Some (flaw_at p G.called w)) x (picks_flaw G p (type_row ps) (row_of types) (Err w) (unkind e))))
  where
    none : (t : Cn) → Found G (node p a (fields_of fs)) t → ⊥
    none t (fields_have y k) = kind_out (subst (λ z. HasKind G (type_row z) (row_of types)) (one_row y x) k) (lacks {p = p} e)

with_pairs : (G : Sc) (p : Place) (a : Bool) (fs : Fds) (kids named : Option Fault) (ps qs : Prs) → ps ≡ qs → Least (Sub G (node p a (fields_of fs))) kids → Picks (FieldFault G fs) named → FieldsFound no_cover G fs qs → Verdict G (node p a (fields_of fs)) (of_whole G p kids named (type_row ps) (judged_at G.kinds (type_row ps) (row_of types)))
with_pairs G p a fs kids named ps qs i l h x = with_kind G p a fs kids named ps l h (subst (λ z. FieldsFound no_cover G fs z) (sym i) x) (kind_is G (type_row ps) (row_of types))

with_row : (G : Sc) (p : Place) (a : Bool) (fs : Fds) (kids named : Option Fault) (o : Option (List (Cn × Cn))) → Least (Sub G (node p a (fields_of fs))) kids → Picks (FieldFault G fs) named → RowAfter G fs [] o → Verdict G (node p a (fields_of fs)) (of_row G p kids named o)
with_row G p a fs kids named None l h n = whole G (node p a (fields_of fs)) None kids named none l (fields_alone G p a fs named (λ f x. n x.pairs x.found) h)
  where
    none : (t : Cn) → Found G (node p a (fields_of fs)) t → ⊥
    none t (fields_have {ps = ps} x k) = n ps x
with_row G p a fs kids named (Some all) l h (ps, (x, i)) =
    with_pairs G p a fs kids named (pairs_from all) ps (ap pairs_from i ∙ rebuilt ps) l h x

-- {n = e, ..}
pub fields_told : (G : Sc) (p : Place) (a : Bool) (fs : Fds) (js : List Jd) → FieldsTold G fs js → Verdict G (node p a (fields_of fs)) (of_record G p fs js)
fields_told G p a fs js h =
    with_row G p a fs (fields_found G js (field_list fs) no_fields_yet).kids (fields_found G js (field_list fs) no_fields_yet).own
    (fields_found G js (field_list fs) no_fields_yet).row
    (least_as (Here G (InFields fs)) (Sub G (node p a (fields_of fs))) (fields_found G js (field_list fs) no_fields_yet).kids
    (part_there G p a fs) (part_back G p a fs)
    (least_start (Here G (InFields fs)) (fields_found G js (field_list fs) no_fields_yet).kids
    (kids_behind G fs js no_fields_yet Nowhere h least_nowhere)))
    (picks_start (FieldFault G fs) (fields_found G js (field_list fs) no_fields_yet).own
    (own_behind G fs js no_fields_yet Never h picks_never))
    (row_behind G fs js no_fields_yet h)
