-- What a pattern is computed to bind is what it is found to bind.
use Rattle.std.proofs.Common.{◌≡◌, ℕ, Bool, true, false, List, [], ◌∷◌, ◌++◌, Option, Some, None, Result, Ok, Err, refl, ap, subst, ◌∙◌}
use Rattle.con_terms.specs.Trees.{Kd, types, names, Cn, record_of}
use Rattle.con_terms.specs.declared.place.Place.{Place}
use Rattle.row_normal.specs.Ordered.{ordered_pieces}
use Rattle.kind_rules.specs.Flaws.{Flw}
use Rattle.kind_rules.specs.Kinding.{judged_at}
use Rattle.core_terms.specs.Trees.{Pt, pattern, Pf, any, binds, is_number, is_text, is_bare, is_holding, has_fields, annotated, Pfs, no_pat_fields, pat_field}
use Rattle.core_terms.specs.Types.{int_type, string_type}
use Rattle.core_typing.specs.Scopes.{Sc, normal_of}
use Rattle.core_typing.specs.Faults.{Fault}
use Rattle.core_typing.specs.Judged.{HasKind}
use Rattle.core_typing.specs.Compared.{Alike, field_of}
use Rattle.core_typing.specs.PatternFaults.{PatFound, any_binds, binds_one, number_binds, text_binds, bare_binds, holding_binds, fields_bind, more_fields_bind, annotated_binds, PatFieldsFound, none_bind, one_binds}
use Rattle.told_faults.specs.Computed.{wants, record_row}
use Rattle.told_faults.specs.Heads.{Wanted, agree, Kindly, kindly, Rec, a_record, no_rec}
use Rattle.told_faults.proofs.Parts.{wanted, kind_is}
use Rattle.told_faults.proofs.Heads.{record_view}
use Rattle.judgements.specs.Bindings.{Bd, bind_these, bad_pattern}
use Rattle.pattern_rules.specs.Binds.{bind_unless, bind_one, Da, bad_data, bare_data, holding_data, data_at, bare_binding, holding_binding, annotated_unless, annotated_binding, Of, stop_field, bad_field, bound_field, field_bound, field_taken, field_named, field_binding, with_told, Fb, bind_fields, bad_fields, all_fields, after_field, rest_binding, whole_binding, row_binding, record_binding, binding, form_binding, fields_binding}
use Rattle.pattern_rules.proofs.Data.{DataIs, Holding, data_is}

-- a pattern is found to bind types, which stand before those that are bound already
pub record Binds (G : Sc) (L : List Cn) (q : Pt) (t : Cn) (M : List Cn) : Type 0 where
  pub bound : List Cn
  pub found : PatFound G q t bound
  pub is : M ≡ bound ++ L

abbrev pub BindsAs : Sc → List Cn → Pt → Cn → Bd → Type 0
BindsAs G L q t (bind_these M) = Binds G L q t M
BindsAs G L q t (bad_pattern f) = Unit {0}

pub record FieldsBind (G : Sc) (L : List Cn) (fs : Pfs) (ps rs M : List Cn) : Type 0 where
  pub bound : List Cn
  pub found : PatFieldsFound G fs ps rs bound
  pub is : M ≡ bound ++ L

-- where something was told before, nothing is bound
abbrev pub Untold : Option Fault → Type 0 → Type 0
Untold None X = X
Untold (Some f) X = ⊥

abbrev pub FieldsBindAs : Sc → Option Fault → List Cn → Pfs → List Cn → Fb → Type 0
FieldsBindAs G told L fs ps (bind_fields rs M) = Untold told (FieldsBind G L fs ps rs M)
FieldsBindAs G told L fs ps (bad_fields f) = Unit {0}

alike_of : (G : Sc) (p : Place) (t u : Cn) → wants G p t u ≡ None → Alike t u
alike_of G p t u h = alike_in (subst (Wanted G p t u) h (wanted G p t u))
  where
    alike_in : Wanted G p t u None → Alike t u
    alike_in (agree a) = a

kind_of : (G : Sc) (c : Cn) (k l : Kd) → judged_at G.kinds c k ≡ Ok l → HasKind G c k
kind_of G c k l h = kind_in (subst (Kindly G c k) h (kind_is G c k))
  where
    kind_in : Kindly G c k (Ok l) → HasKind G c k
    kind_in (kindly a) = a

-- variables and literals
unless_binds : (G : Sc) (L ts : List Cn) (q : Pt) (p : Place) (t u : Cn) (o : Option Fault) → wants G p t u ≡ o → (Alike t u → PatFound G q t ts) → BindsAs G L q t (bind_unless (ts ++ L) o)
unless_binds G L ts q p t u None h go = record { bound = ts; found = go (alike_of G p t u h); is = refl }
unless_binds G L ts q p t u (Some f) h go = tt

variable_binds : (G : Sc) (L : List Cn) (p : Place) (x : ℕ) (t u : Cn) (r : Result Kd Flw) → judged_at G.kinds u types ≡ r → BindsAs G L (pattern p (binds x u)) t (bind_one G L p t u r)
variable_binds G L p x t u (Err f) h = tt
variable_binds G L p x t u (Ok k) h = unless_binds G L (u ∷ []) (pattern p (binds x u)) p t u (wants G p t u) refl (λ a. binds_one (kind_of G u types k h) a)

-- constructors
bare_binds_as : (G : Sc) (L : List Cn) (p : Place) (s j : ℕ) (t : Cn) (d : Da) → DataIs G s j t d → BindsAs G L (pattern p (is_bare s j)) t (bare_binding G L p d)
bare_binds_as G L p s j t (bad_data f) h = tt
bare_binds_as G L p s j t (bare_data n) h = record { bound = []; found = bare_binds h.at h.holds; is = refl }
bare_binds_as G L p s j t (holding_data n u) h = tt

holding_found : (G : Sc) (L : List Cn) (p : Place) (s j : ℕ) (q : Pt) (t u : Cn) (b : Bd) → Holding G s j t u → BindsAs G L q u b → BindsAs G L (pattern p (is_holding s j q)) t b
holding_found G L p s j q t u (bind_these M) h k = record { bound = k.bound; found = holding_binds h.at h.holds (subst (λ v. PatFound G q v k.bound) h.is k.found); is = k.is }
holding_found G L p s j q t u (bad_pattern f) h k = tt

holding_binds_as : (G : Sc) (L : List Cn) (p : Place) (s j : ℕ) (q : Pt) (t : Cn) (d : Da) → DataIs G s j t d → ((u : Cn) → BindsAs G L q u (binding G L q u)) → BindsAs G L (pattern p (is_holding s j q)) t (holding_binding G p d (λ u. binding G L q u))
holding_binds_as G L p s j q t (bad_data f) h go = tt
holding_binds_as G L p s j q t (bare_data n) h go = tt
holding_binds_as G L p s j q t (holding_data n u) h go = holding_found G L p s j q t u (binding G L q u) h (go u)

-- (p : t)
annotated_told : (G : Sc) (L : List Cn) (p : Place) (q : Pt) (t u : Cn) (k : Kd) (o : Option Fault) (b : Bd) → judged_at G.kinds u types ≡ Ok k → wants G p t u ≡ o → BindsAs G L q u b → BindsAs G L (pattern p (annotated q u)) t (annotated_unless o b)
annotated_told G L p q t u k None (bind_these M) h e r = record { bound = r.bound; found = annotated_binds (kind_of G u types k h) (alike_of G p t u e) r.found; is = r.is }
annotated_told G L p q t u k None (bad_pattern f) h e r = tt
annotated_told G L p q t u k (Some f) (bind_these M) h e r = tt
annotated_told G L p q t u k (Some f) (bad_pattern g) h e r = tt

annotated_binds_as : (G : Sc) (L : List Cn) (p : Place) (q : Pt) (t u : Cn) (r : Result Kd Flw) (b : Bd) → judged_at G.kinds u types ≡ r → BindsAs G L q u b → BindsAs G L (pattern p (annotated q u)) t (annotated_binding G p t u r b)
annotated_binds_as G L p q t u (Err w) b h k = tt
annotated_binds_as G L p q t u (Ok l) b h k = annotated_told G L p q t u l (wants G p t u) b h refl k

-- records
rest_binds : (G : Sc) (L : List Cn) (p : Place) (fs : Pfs) (more : Bool) (t r : Cn) (rs M : List Cn) → normal_of t ≡ Some (record_of r) → FieldsBind G L fs (ordered_pieces r) rs M → BindsAs G L (pattern p (has_fields fs more)) t (rest_binding G p more rs M)
rest_binds G L p fs true t r rs M h k = record { bound = k.bound; found = more_fields_bind h k.found; is = k.is }
rest_binds G L p fs false t r [] M h k = record { bound = k.bound; found = fields_bind h k.found; is = k.is }
rest_binds G L p fs false t r (c ∷ rs) M h k = tt

whole_binds : (G : Sc) (L : List Cn) (p : Place) (fs : Pfs) (more : Bool) (t r : Cn) (b : Fb) → normal_of t ≡ Some (record_of r) → FieldsBindAs G None L fs (ordered_pieces r) b → BindsAs G L (pattern p (has_fields fs more)) t (whole_binding G p more b)
whole_binds G L p fs more t r (bad_fields f) h k = tt
whole_binds G L p fs more t r (bind_fields rs M) h k = rest_binds G L p fs more t r rs M h k

row_binds : (G : Sc) (L : List Cn) (p : Place) (fs : Pfs) (more : Bool) (t n : Cn) (o : Option Cn) → normal_of t ≡ Some n → Rec n o → ((ps : List Cn) → FieldsBindAs G None L fs ps (fields_binding G None L fs ps)) → BindsAs G L (pattern p (has_fields fs more)) t (row_binding G p more n o (λ ps. fields_binding G None L fs ps))
row_binds G L p fs more t n o h (no_rec w) go = tt
row_binds G L p fs more t n o h (a_record r) go = whole_binds G L p fs more t r (fields_binding G None L fs (ordered_pieces r)) h (go (ordered_pieces r))

record_binds : (G : Sc) (L : List Cn) (p : Place) (fs : Pfs) (more : Bool) (t : Cn) (o : Option Cn) → normal_of t ≡ o → ((ps : List Cn) → FieldsBindAs G None L fs ps (fields_binding G None L fs ps)) → BindsAs G L (pattern p (has_fields fs more)) t (record_binding G p more o (λ ps. fields_binding G None L fs ps))
record_binds G L p fs more t None h go = tt
record_binds G L p fs more t (Some n) h go = row_binds G L p fs more t n (record_row n) h (record_view n) go

-- one field, by its name
pub record FieldBinds (G : Sc) (L : List Cn) (n : Cn) (q : Pt) (ps rs ts : List Cn) : Type 0 where
  pub name : Cn
  pub value : Cn
  pub kind : HasKind G n names
  pub normal : normal_of n ≡ Some name
  pub there : field_of name ps ≡ Some (value, rs)
  pub binds_there : Binds G L q value ts

abbrev pub FieldIs : Sc → List Cn → Cn → Pt → List Cn → Of → Type 0
FieldIs G L n q ps (stop_field f) = Unit {0}
FieldIs G L n q ps (bad_field f rs) = Unit {0}
FieldIs G L n q ps (bound_field rs ts) = FieldBinds G L n q ps rs ts

field_binds : (G : Sc) (L : List Cn) (n m v : Cn) (q : Pt) (ps rs : List Cn) (b : Bd) → HasKind G n names → normal_of n ≡ Some m → field_of m ps ≡ Some (v, rs) → BindsAs G L q v b → FieldIs G L n q ps (field_bound rs b)
field_binds G L n m v q ps rs (bind_these M) k h e w = record { name = m; value = v; kind = k; normal = h; there = e; binds_there = w }
field_binds G L n m v q ps rs (bad_pattern f) k h e w = tt

taken_is : (G : Sc) (L : List Cn) (p : Place) (n m : Cn) (q : Pt) (ps : List Cn) (o : Option (Cn × List Cn)) → HasKind G n names → normal_of n ≡ Some m → field_of m ps ≡ o → ((v : Cn) → BindsAs G L q v (binding G L q v)) → FieldIs G L n q ps (field_taken G p m ps o (λ v. binding G L q v))
taken_is G L p n m q ps None k h e go = tt
taken_is G L p n m q ps (Some (v, rs)) k h e go = field_binds G L n m v q ps rs (binding G L q v) k h e (go v)

named_is : (G : Sc) (L : List Cn) (p : Place) (n : Cn) (q : Pt) (ps : List Cn) (o : Option Cn) → HasKind G n names → normal_of n ≡ o → ((v : Cn) → BindsAs G L q v (binding G L q v)) → FieldIs G L n q ps (field_named G p ps o (λ v. binding G L q v))
named_is G L p n q ps None k h go = tt
named_is G L p n q ps (Some m) k h go = taken_is G L p n m q ps (field_of m ps) k h refl go

field_is : (G : Sc) (L : List Cn) (p : Place) (n : Cn) (q : Pt) (ps : List Cn) (r : Result Kd Flw) → judged_at G.kinds n names ≡ r → ((v : Cn) → BindsAs G L q v (binding G L q v)) → FieldIs G L n q ps (field_binding G p n ps r (λ v. binding G L q v))
field_is G L p n q ps (Err w) h go = tt
field_is G L p n q ps (Ok k) h go = named_is G L p n q ps (normal_of n) (kind_of G n names k h) refl go

append_grouped : (xs ys zs : List Cn) → xs ++ (ys ++ zs) ≡ (xs ++ ys) ++ zs
append_grouped [] ys zs = refl
append_grouped (x ∷ xs) ys zs = ap (λ v. x ∷ v) (append_grouped xs ys zs)

-- a field and those behind it
never_bound : (G : Sc) (told : Option Fault) (f : Fault) (L N : List Cn) (fs gs : Pfs) (ps rs : List Cn) (b : Fb) → FieldsBindAs G (Some f) N gs rs b → FieldsBindAs G told L fs ps b
never_bound G told f L N fs gs ps rs (bind_fields us M) h = absurd h
never_bound G told f L N fs gs ps rs (bad_fields g) h = tt

both_bind : (G : Sc) (told : Option Fault) (L : List Cn) (p : Place) (n : Cn) (q : Pt) (fs : Pfs) (ps rs ts : List Cn) (b : Fb) → FieldBinds G L n q ps rs ts → FieldsBindAs G told ts fs rs b → FieldsBindAs G told L (pat_field p n q fs) ps b
both_bind G None L p n q fs ps rs ts (bind_fields us M) w h = record {
  bound = h.bound ++ w.binds_there.bound;
  found = one_binds w.kind w.normal w.there w.binds_there.found h.found;
  is = h.is ∙ ap (λ v. h.bound ++ v) w.binds_there.is ∙ append_grouped h.bound w.binds_there.bound L;
}
both_bind G (Some f) L p n q fs ps rs ts (bind_fields us M) w h = h
both_bind G told L p n q fs ps rs ts (bad_fields f) w h = tt

after_binds : (G : Sc) (told : Option Fault) (L : List Cn) (p : Place) (n : Cn) (q : Pt) (fs : Pfs) (ps : List Cn) (o : Of) → FieldIs G L n q ps o
    → ((t : Option Fault) (M rs : List Cn) → FieldsBindAs G t M fs rs (fields_binding G t M fs rs))
    → FieldsBindAs G told L (pat_field p n q fs) ps (after_field told L o (λ t M rs. fields_binding G t M fs rs))
after_binds G told L p n q fs ps (stop_field f) w go = tt
after_binds G told L p n q fs ps (bad_field f rs) w go =
    never_bound G told (with_told told f) L L (pat_field p n q fs) fs ps rs (fields_binding G (Some (with_told told f)) L fs rs) (go (Some (with_told told f)) L rs)
after_binds G told L p n q fs ps (bound_field rs ts) w go = both_bind G told L p n q fs ps rs ts (fields_binding G told ts fs rs) w (go told ts rs)

none_binds : (G : Sc) (told : Option Fault) (L ps : List Cn) → FieldsBindAs G told L no_pat_fields ps (all_fields told ps L)
none_binds G None L ps = record { bound = []; found = none_bind; is = refl }
none_binds G (Some f) L ps = tt

mutual
  pub pattern_binds : (G : Sc) (L : List Cn) (q : Pt) (t : Cn) → BindsAs G L q t (binding G L q t)
  pattern_binds G L (pattern p f) t = form_binds G L p f t

  form_binds : (G : Sc) (L : List Cn) (p : Place) (f : Pf) (t : Cn) → BindsAs G L (pattern p f) t (form_binding G L p f t)
  form_binds G L p any t = record { bound = []; found = any_binds; is = refl }
  form_binds G L p (binds x u) t = variable_binds G L p x t u (judged_at G.kinds u types) refl
  form_binds G L p (is_number z) t = unless_binds G L [] (pattern p (is_number z)) p t int_type (wants G p t int_type) refl (λ a. number_binds a)
  form_binds G L p (is_text w) t = unless_binds G L [] (pattern p (is_text w)) p t string_type (wants G p t string_type) refl (λ a. text_binds a)
  form_binds G L p (is_bare s j) t = bare_binds_as G L p s j t (data_at G p s j t) (data_is G p s j t)
  form_binds G L p (is_holding s j q) t = holding_binds_as G L p s j q t (data_at G p s j t) (data_is G p s j t) (λ u. pattern_binds G L q u)
  form_binds G L p (has_fields fs more) t = record_binds G L p fs more t (normal_of t) refl (λ ps. fields_bind_as G None L fs ps)
  form_binds G L p (annotated q u) t = annotated_binds_as G L p q t u (judged_at G.kinds u types) (binding G L q u) refl (pattern_binds G L q u)

  fields_bind_as : (G : Sc) (told : Option Fault) (L : List Cn) (fs : Pfs) (ps : List Cn) → FieldsBindAs G told L fs ps (fields_binding G told L fs ps)
  fields_bind_as G told L no_pat_fields ps = none_binds G told L ps
  fields_bind_as G told L (pat_field p n q fs) ps =
      after_binds G told L p n q fs ps (field_binding G p n ps (judged_at G.kinds n names) (λ v. binding G L q v))
      (field_is G L p n q ps (judged_at G.kinds n names) refl (λ v. pattern_binds G L q v)) (λ t M rs. fields_bind_as G t M fs rs)
