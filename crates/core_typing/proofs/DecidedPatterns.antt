-- A pattern is found at a type, or it has a fault.
use Rattle.std.proofs.Common.{◌≡◌, ℕ, ℤ, Bool, true, false, List, [], ◌∷◌, ◌++◌, Option, Some, None, refl, ap, ◌∙◌, ◌⊎◌, inl, inr}
use Rattle.con_terms.specs.Trees.{Kd, types, names, Cn, arrow, record_of, unit_con}
use Rattle.con_terms.specs.declared.place.Place.{Place}
use Rattle.row_normal.specs.Ordered.{ordered_pieces}
use Rattle.core_terms.specs.Trees.{Pt, pattern, any, binds, is_number, is_text, is_bare, is_holding, has_fields, annotated, Pfs, no_pat_fields, pat_field, Cd}
use Rattle.core_terms.specs.Types.{int_type, string_type}
use Rattle.core_terms.specs.Datatypes.{held_at}
use Rattle.core_typing.specs.Scopes.{Sc, normal_of}
use Rattle.core_typing.specs.Compared.{field_of}
use Rattle.core_typing.specs.Judged.{HasKind, LacksKind}
use Rattle.core_typing.specs.Faults.{Fault}
use Rattle.core_typing.specs.Faults as fault
use Rattle.core_typing.specs.PatternFaults.{Constructs, AtData, PatFound, any_binds, binds_one, number_binds, text_binds, bare_binds, holding_binds, fields_bind, more_fields_bind, annotated_binds, PatFieldsFound, none_bind, one_binds, PatFault, PatFieldsFault}
use Rattle.core_typing.specs.PatternFaults as pat
use Rattle.core_typing.specs.Own.{IsRecord}
use Rattle.core_typing.proofs.Shapes.{is_record}
use Rattle.core_typing.proofs.DecidedForms.{Told, Compared, alike, differs, is_large, compare, kinding, Head, no_form, head, no_head, head_of, DataAt, at_data, unknown, too_big, elsewhere, data_at}

-- patterns
abbrev pub PatDec : Sc → Pt → Cn → Type 0
PatDec G q t = ((ts : List Cn) × PatFound G q t ts) ⊎ Told (PatFault G q t)

abbrev pub FieldsDec : Sc → Pfs → List Cn → Type 0
FieldsDec G fs ps = ((rs : List Cn) × (ts : List Cn) × PatFieldsFound G fs ps rs ts) ⊎ Told (PatFieldsFault G fs ps)

abbrev pub Kds : Sc → Cn → Kd → Type 0
Kds G c k = HasKind G c k ⊎ ((p : Place) → Told (LacksKind G p c k))

pub binds_dec : (G : Sc) (p : Place) (x : ℕ) (u t : Cn) → Kds G u types → Compared t u → PatDec G (pattern p (binds x u)) t
binds_dec G p x u t (inr l) c = let (f, h) = l p in inr (f, pat.bad_kind h)
binds_dec G p x u t (inl k) (alike a) = inl (u ∷ [], binds_one k a)
binds_dec G p x u t (inl k) (differs m n d) = inr (fault.mismatch p G.called m n, pat.other_type k d)
binds_dec G p x u t (inl k) (is_large l) = inr (fault.too_large p, pat.large_type k l)

pub number_dec : (G : Sc) (p : Place) (z : ℤ) (t : Cn) → Compared t int_type → PatDec G (pattern p (is_number z)) t
number_dec G p z t (alike a) = inl ([], number_binds a)
number_dec G p z t (differs m n d) = inr (fault.mismatch p G.called m n, pat.no_number d)
number_dec G p z t (is_large l) = inr (fault.too_large p, pat.large_number l)

pub text_dec : (G : Sc) (p : Place) (w : List ℕ) (t : Cn) → Compared t string_type → PatDec G (pattern p (is_text w)) t
text_dec G p w t (alike a) = inl ([], text_binds a)
text_dec G p w t (differs m n d) = inr (fault.mismatch p G.called m n, pat.no_text d)
text_dec G p w t (is_large l) = inr (fault.too_large p, pat.large_text l)

pub holds_dec : (G : Sc) (p : Place) (s j : ℕ) (t : Cn) (c : Cd) (args : List Cn) → AtData G s j t c args → (held : Cn) → c.holds ≡ Some held → (o : Option Cn) → normal_of (held_at args held) ≡ o → PatDec G (pattern p (is_bare s j)) t
holds_dec G p s j t c args a held e None h = inr (fault.too_large p, pat.holds_too_much a e h)
holds_dec G p s j t c args a held e (Some m) h = inr (fault.mismatch p G.called a.n (arrow m a.n), pat.holds_more a e a.normal h)

pub bare_dec : (G : Sc) (p : Place) (s j : ℕ) (t : Cn) → DataAt G s j t → PatDec G (pattern p (is_bare s j)) t
bare_dec G p s j t (unknown h) = inr (fault.unbound p (fault.a_constructor s j), pat.no_bare h)
bare_dec G p s j t (too_big h) = inr (fault.too_large p, pat.large_bare h)
bare_dec G p s j t (elsewhere d c n k h g) = inr (_, pat.other_bare k h g)
bare_dec G p s j t (at_data c args a) = by_holds (c.holds) refl
  where
    by_holds : (o : Option Cn) → c.holds ≡ o → PatDec G (pattern p (is_bare s j)) t
    by_holds None e = inl ([], bare_binds a e)
    by_holds (Some held) e = holds_dec G p s j t c args a held e (normal_of (held_at args held)) refl

pub holding_dec : (G : Sc) (p : Place) (s j : ℕ) (q : Pt) (t : Cn) → DataAt G s j t → ((u : Cn) → PatDec G q u) → PatDec G (pattern p (is_holding s j q)) t
holding_dec G p s j q t (unknown h) go = inr (fault.unbound p (fault.a_constructor s j), pat.no_holding h)
holding_dec G p s j q t (too_big h) go = inr (fault.too_large p, pat.large_holding h)
holding_dec G p s j q t (elsewhere d c n k h g) go = inr (_, pat.other_holding k h g)
holding_dec G p s j q t (at_data c args a) go = by_holds (c.holds) refl
  where
    by_holds : (o : Option Cn) → c.holds ≡ o → PatDec G (pattern p (is_holding s j q)) t
    by_holds None e = inr (fault.mismatch p G.called (arrow unit_con a.n) a.n, pat.holds_less a e a.normal)
    by_holds (Some held) e = by_held (go (held_at args held))
      where
        by_held : PatDec G q (held_at args held) → PatDec G (pattern p (is_holding s j q)) t
        by_held (inl (ts, h)) = inl (ts, holding_binds a e h)
        by_held (inr (f, h)) = inr (f, pat.in_held a e h)

pub record_dec : (G : Sc) (p : Place) (fs : Pfs) (b : Bool) (t : Cn) → Head IsRecord t → ((ps : List Cn) → FieldsDec G fs ps) → PatDec G (pattern p (has_fields fs b)) t
record_dec G p fs b t (no_form e) go = inr (fault.too_large p, pat.large_record e)
record_dec G p fs b t (no_head n e h) go = inr (_, pat.no_record e (λ r i. h (r, i)))
record_dec G p fs b t (head n e (r, i)) go = by_fields b (go (ordered_pieces r))
  where
    is : normal_of t ≡ Some (record_of r)
    is = e ∙ ap (λ z. Some z) i

    by_fields : (d : Bool) → FieldsDec G fs (ordered_pieces r) → PatDec G (pattern p (has_fields fs d)) t
    by_fields d (inr (f, h)) = inr (f, pat.in_fields is h)
    by_fields true (inl (rs, ts, h)) = inl (ts, more_fields_bind is h)
    by_fields false (inl ([], ts, h)) = inl (ts, fields_bind is h)
    by_fields false (inl (c ∷ rs, ts, h)) = inr (_, pat.fields_left is h)

pub annotated_dec : (G : Sc) (p : Place) (q : Pt) (u t : Cn) → Kds G u types → Compared t u → PatDec G q u → PatDec G (pattern p (annotated q u)) t
annotated_dec G p q u t (inr l) c d = let (f, h) = l p in inr (f, pat.bad_annotation h)
annotated_dec G p q u t (inl k) (differs m n d) r = inr (fault.mismatch p G.called m n, pat.other_annotation k d)
annotated_dec G p q u t (inl k) (is_large l) r = inr (fault.too_large p, pat.large_annotation k l)
annotated_dec G p q u t (inl k) (alike a) (inl (ts, h)) = inl (ts, annotated_binds k a h)
annotated_dec G p q u t (inl k) (alike a) (inr (f, h)) = inr (f, pat.in_annotated k h)

pub field_dec : (G : Sc) (p : Place) (n : Cn) (q : Pt) (fs : Pfs) (ps : List Cn) → Kds G n names → (o : Option Cn) → normal_of n ≡ o → ((v : Cn) → PatDec G q v) → ((qs : List Cn) → FieldsDec G fs qs) → FieldsDec G (pat_field p n q fs) ps
field_dec G p n q fs ps (inr l) o e go on = let (f, h) = l p in inr (f, pat.bad_name h)
field_dec G p n q fs ps (inl k) None e go on = inr (fault.too_large p, pat.large_name e)
field_dec G p n q fs ps (inl k) (Some m) e go on = by_field (field_of m ps) refl
  where
    by_field : (o : Option (Cn × List Cn)) → field_of m ps ≡ o → FieldsDec G (pat_field p n q fs) ps
    by_field None h = inr (_, pat.no_field k e h)
    by_field (Some (v, qs)) h = by_parts (go v) (on qs)
      where
        by_parts : PatDec G q v → FieldsDec G fs qs → FieldsDec G (pat_field p n q fs) ps
        by_parts (inr (f, x)) rest = inr (f, pat.in_field k e h x)
        by_parts (inl (ts, x)) (inr (f, y)) = inr (f, pat.in_later_field k e h y)
        by_parts (inl (ts, x)) (inl (rs, us, y)) = inl (rs, us ++ ts, one_binds k e h x y)

mutual
  pub pattern_dec : (G : Sc) (q : Pt) (t : Cn) → PatDec G q t
  pattern_dec G (pattern p any) t = inl ([], any_binds)
  pattern_dec G (pattern p (binds x u)) t = binds_dec G p x u t (kinding G u types) (compare t u)
  pattern_dec G (pattern p (is_number z)) t = number_dec G p z t (compare t int_type)
  pattern_dec G (pattern p (is_text w)) t = text_dec G p w t (compare t string_type)
  pattern_dec G (pattern p (is_bare s j)) t = bare_dec G p s j t (data_at G s j t)
  pattern_dec G (pattern p (is_holding s j q)) t = holding_dec G p s j q t (data_at G s j t) (λ u. pattern_dec G q u)
  pattern_dec G (pattern p (has_fields fs b)) t = record_dec G p fs b t (head_of IsRecord is_record t (normal_of t) refl) (λ ps. fields_dec G fs ps)
  pattern_dec G (pattern p (annotated q u)) t = annotated_dec G p q u t (kinding G u types) (compare t u) (pattern_dec G q u)

  pub fields_dec : (G : Sc) (fs : Pfs) (ps : List Cn) → FieldsDec G fs ps
  fields_dec G no_pat_fields ps = inl (ps, [], none_bind)
  fields_dec G (pat_field p n q fs) ps = field_dec G p n q fs ps (kinding G n names) (normal_of n) refl (λ v. pattern_dec G q v) (λ qs. fields_dec G fs qs)
