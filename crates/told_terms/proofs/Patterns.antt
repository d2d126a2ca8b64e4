-- What is told of a pattern is one of the first of its faults.
use Rattle.std.proofs.Common.{◌≡◌, ℕ, ℤ, Bool, true, false, List, [], ◌∷◌, ◌++◌, Option, Some, None, Result, Err, if◌then◌else◌, refl, ap, ap₂, sym, ◌∙◌, subst}
use Rattle.con_terms.specs.Trees.{Kd, types, names, Cn, arrow, unit_con, record_of, no_pairs}
use Rattle.con_terms.specs.declared.place.Place.{Place}
use Rattle.row_normal.specs.Ordered.{ordered_pieces}
use Rattle.kind_rules.specs.Flaws.{Flw}
use Rattle.kind_rules.specs.Kinding.{judged_at}
use Rattle.core_terms.specs.Trees.{Pt, pattern, Pf, any, binds, is_number, is_text, is_bare, is_holding, has_fields, annotated, Pfs, no_pat_fields, pat_field}
use Rattle.core_terms.specs.Types.{int_type, string_type, unit_type, type_row}
use Rattle.core_terms.specs.Datatypes.{held_at}
use Rattle.core_typing.specs.Scopes.{Sc, normal_of}
use Rattle.core_typing.specs.Faults.{Fault, at, Earlier, mismatch, too_large}
use Rattle.core_typing.specs.Judged.{HasKind, LacksKind, lacks, flaw_at}
use Rattle.core_typing.specs.Compared.{field_of}
use Rattle.core_typing.specs.Own.{Wants, other, large, IsRecord}
use Rattle.core_typing.specs.PatternFaults.{PatFound, PatFieldsFound, none_bind, one_binds, PatFault, PatFieldsFault}
use Rattle.core_typing.specs.PatternFaults as pat
use Rattle.core_typing.proofs.OneType.{one_value, one_record, one_constructor, held_alike}
use Rattle.core_typing.proofs.Excluded.{kind_out}
use Rattle.told_faults.specs.Computed.{sooner, first, wants, record_row}
use Rattle.told_faults.specs.Told.{Picks, Or, or_first, or_second, Never, Just, just}
use Rattle.told_faults.specs.Heads.{Kindly, kindly, unkind, Rec, a_record, no_rec}
use Rattle.told_faults.proofs.Parts.{at_one, lacks_at, picks_wants, kind_is, picks_flaw}
use Rattle.told_faults.proofs.Ordering.{none_before}
use Rattle.told_faults.proofs.Verdict.{picks_as, picks_never, picks_just, picks_two}
use Rattle.told_faults.proofs.Heads.{record_view}
use Rattle.judgements.specs.Bindings.{Bd, bind_these, bad_pattern}
use Rattle.pattern_rules.specs.Binds.{earlier, bind_unless, bind_one, Da, bad_data, bare_data, holding_data, data_at, held_more, bare_binding, holding_binding, annotated_unless, annotated_binding, Of, stop_field, bad_field, bound_field, field_bound, no_field_there, field_taken, field_named, field_binding, with_told, Fb, bind_fields, bad_fields, all_fields, after_field, rest_binding, whole_binding, row_binding, record_binding, binding, form_binding, fields_binding}
use Rattle.pattern_rules.proofs.Bound.{BindsAs, Untold, pattern_binds}
use Rattle.told_terms.proofs.Beside.{picks_start}
use Rattle.told_terms.proofs.PatternsOut.{other_out, holds_out, pattern_out, fields_out}
use Rattle.told_terms.proofs.Constructors.{NoData, no_data_out, bare_fault, holding_fault, BareData, HoldingData, DataTold, data_told}
use Rattle.told_terms.proofs.Tests.{no_value}

-- the fault that is told of a pattern, where it is one
abbrev pub fault_of : Bd → Option Fault
fault_of (bind_these ts) = None
fault_of (bad_pattern f) = Some f

-- where a fault is told, it is one of the first
abbrev pub BadTold : Sc → Pt → Cn → Bd → Type 0
BadTold G q t (bind_these ts) = Unit {0}
BadTold G q t (bad_pattern f) = Picks (PatFault G q t) (Some f)

bad_told : (G : Sc) (q : Pt) (t : Cn) (b : Bd) → Picks (PatFault G q t) (fault_of b) → BadTold G q t b
bad_told G q t (bind_these ts) p = tt
bad_told G q t (bad_pattern f) p = p

both_told : (G : Sc) (L : List Cn) (q : Pt) (t : Cn) (b : Bd) → BindsAs G L q t b → BadTold G q t b → Picks (PatFault G q t) (fault_of b)
both_told G L q t (bind_these M) h p = λ f x. pattern_out x h.found
both_told G L q t (bad_pattern f) h p = p

picks_bound : (G : Sc) (L : List Cn) (q : Pt) (t : Cn) → BadTold G q t (binding G L q t) → Picks (PatFault G q t) (fault_of (binding G L q t))
picks_bound G L q t p = both_told G L q t (binding G L q t) (pattern_binds G L q t) p

-- the earlier of two
earlier_by : (f h : Fault) (b : Bool) → Some (if b then h else f) ≡ (if b then Some h else Some f)
earlier_by f h true = refl
earlier_by f h false = refl

earlier_is : (f h : Fault) → first (Some f) (Some h) ≡ Some (earlier f h)
earlier_is f h = sym (earlier_by f h (sooner (at h) (at f)))

-- what was told before
abbrev Given : Option Fault → Fault → Type 0
Given None = Never
Given (Some g) = Just g

picks_given : (o : Option Fault) → Picks (Given o) o
picks_given None = picks_never
picks_given (Some g) = picks_just g

with_told_is : (o : Option Fault) (f : Fault) → first o (Some f) ≡ Some (with_told o f)
with_told_is None f = refl
with_told_is (Some h) f = earlier_is h f

-- kinds
pub no_kind : {G : Sc} (p : Place) {c : Cn} {k : Kd} {w : Flw} → HasKind G c k → judged_at G.kinds c k ≡ Err w → ⊥
no_kind {G} p {c} {k} {w} h e = kind_out {G = G} {p = p} {c = c} {k = k} {f = flaw_at p G.called w} h (lacks e)

-- variables
binds_lacks : {G : Sc} {p : Place} {x : ℕ} {t u : Cn} {w : Flw} {f : Fault} → judged_at G.kinds u types ≡ Err w → PatFault G (pattern p (binds x u)) t f → LacksKind G p u types f
binds_lacks e (pat.bad_kind l) = l
binds_lacks {p = p} e (pat.other_type k d) = absurd (no_kind p k e)
binds_lacks {p = p} e (pat.large_type k d) = absurd (no_kind p k e)

binds_wants : {G : Sc} {p : Place} {x : ℕ} {t u : Cn} {f : Fault} → HasKind G u types → PatFault G (pattern p (binds x u)) t f → Wants G p t u f
binds_wants k (pat.bad_kind l) = absurd (kind_out k l)
binds_wants k (pat.other_type h d) = other d
binds_wants k (pat.large_type h d) = large d

wants_binds : {G : Sc} {p : Place} {x : ℕ} {t u : Cn} {f : Fault} → HasKind G u types → Wants G p t u f → PatFault G (pattern p (binds x u)) t f
wants_binds k (other d) = pat.other_type k d
wants_binds k (large d) = pat.large_type k d

unless_told : (G : Sc) (p : Place) (q : Pt) (t u : Cn) (L : List Cn) (o : Option Fault) → Picks (Wants G p t u) o → ((f : Fault) → Wants G p t u f → PatFault G q t f) → ((f : Fault) → PatFault G q t f → Wants G p t u f) → BadTold G q t (bind_unless L o)
unless_told G p q t u L None h there back = tt
unless_told G p q t u L (Some f) h there back = picks_as (Wants G p t u) (PatFault G q t) (Some f) there back h

variable_told : (G : Sc) (L : List Cn) (p : Place) (x : ℕ) (t u : Cn) {r : Result Kd Flw} → Kindly G u types r → BadTold G (pattern p (binds x u)) t (bind_one G L p t u r)
variable_told G L p x t u (unkind {w = w} e) =
    picks_as (LacksKind G p u types) (PatFault G (pattern p (binds x u)) t) (Some (flaw_at p G.called w))
    (λ f l. pat.bad_kind l) (λ f y. binds_lacks e y) (picks_flaw G p u types (Err w) (unkind e))
variable_told G L p x t u (kindly k) =
    unless_told G p (pattern p (binds x u)) t u (u ∷ L) (wants G p t u) (picks_wants G p t u) (λ f y. wants_binds k y) (λ f y. binds_wants k y)

-- literals
number_wants : {G : Sc} {p : Place} {z : ℤ} {t : Cn} {f : Fault} → PatFault G (pattern p (is_number z)) t f → Wants G p t int_type f
number_wants (pat.no_number d) = other d
number_wants (pat.large_number d) = large d

wants_number : {G : Sc} {p : Place} {z : ℤ} {t : Cn} {f : Fault} → Wants G p t int_type f → PatFault G (pattern p (is_number z)) t f
wants_number (other d) = pat.no_number d
wants_number (large d) = pat.large_number d

text_wants : {G : Sc} {p : Place} {w : List ℕ} {t : Cn} {f : Fault} → PatFault G (pattern p (is_text w)) t f → Wants G p t string_type f
text_wants (pat.no_text d) = other d
text_wants (pat.large_text d) = large d

wants_text : {G : Sc} {p : Place} {w : List ℕ} {t : Cn} {f : Fault} → Wants G p t string_type f → PatFault G (pattern p (is_text w)) t f
wants_text (other d) = pat.no_text d
wants_text (large d) = pat.large_text d

-- a constructor alone: all its faults stand at the pattern
bare_at : {G : Sc} {p : Place} {s j : ℕ} {t : Cn} {f : Fault} → PatFault G (pattern p (is_bare s j)) t f → at f ≡ p
bare_at (pat.no_bare h) = refl
bare_at (pat.other_bare k h n) = refl
bare_at (pat.large_bare h) = refl
bare_at (pat.holds_more a h k l) = refl
bare_at (pat.holds_too_much a h k) = refl

bare_more : (G : Sc) (p : Place) (s j : ℕ) (t n u : Cn) (o : Option Cn) → HoldingData G s j t n u → normal_of u ≡ o → PatFault G (pattern p (is_bare s j)) t (held_more G p n o)
bare_more G p s j t n u None h e = pat.holds_too_much h.at h.holds (ap normal_of (sym h.is) ∙ e)
bare_more G p s j t n u (Some m) h e = pat.holds_more h.at h.holds h.normal (ap normal_of (sym h.is) ∙ e)

bare_told : (G : Sc) (L : List Cn) (p : Place) (s j : ℕ) (t : Cn) (d : Da) → DataTold G p s j t d → BadTold G (pattern p (is_bare s j)) t (bare_binding G L p d)
bare_told G L p s j t (bad_data f) h = at_one (PatFault G (pattern p (is_bare s j)) t) p f (λ g y. bare_at y) (bare_fault h)
bare_told G L p s j t (bare_data n) h = tt
bare_told G L p s j t (holding_data n u) h =
    at_one (PatFault G (pattern p (is_bare s j)) t) p (held_more G p n (normal_of u)) (λ g y. bare_at y) (bare_more G p s j t n u (normal_of u) h refl)

-- a constructor with a pattern of what it holds
no_data_there : {G : Sc} {p : Place} {s j : ℕ} {q : Pt} {t : Cn} {f g : Fault} → NoData G p s j t f → PatFault G (pattern p (is_holding s j q)) t g → at g ≡ p
no_data_there n (pat.no_holding h) = refl
no_data_there n (pat.other_holding k h m) = refl
no_data_there n (pat.large_holding h) = refl
no_data_there n (pat.holds_less a h k) = refl
no_data_there n (pat.in_held a h x) = absurd (no_data_out n a)

holds_nothing : {G : Sc} {p : Place} {s j : ℕ} {q : Pt} {t n : Cn} {g : Fault} → BareData G s j t n → PatFault G (pattern p (is_holding s j q)) t g → at g ≡ p
holds_nothing b (pat.no_holding h) = refl
holds_nothing b (pat.other_holding k h m) = refl
holds_nothing b (pat.large_holding h) = refl
holds_nothing b (pat.holds_less a h k) = refl
holds_nothing b (pat.in_held a h x) = absurd (holds_out a b.at h b.holds)

in_held_there : {G : Sc} {p : Place} {s j : ℕ} {q : Pt} {t n u : Cn} {f : Fault} → HoldingData G s j t n u → PatFault G q u f → PatFault G (pattern p (is_holding s j q)) t f
in_held_there {G} {q = q} {f = f} h x = pat.in_held h.at h.holds (subst (λ v. PatFault G q v f) h.is x)

held_there : {G : Sc} {p : Place} {s j : ℕ} {q : Pt} {t n u : Cn} {f : Fault} → HoldingData G s j t n u → PatFault G (pattern p (is_holding s j q)) t f → PatFault G q u f
held_there b (pat.no_holding h) = absurd (h b.at.d b.constructor b.at.constructs)
held_there b (pat.other_holding k h m) = absurd (other_out k h m b.at)
held_there b (pat.large_holding h) = absurd (no_value h b.at.normal)
held_there b (pat.holds_less a h k) = absurd (holds_out b.at a b.holds h)
held_there {G} {q = q} {f = f} b (pat.in_held a h x) =
    let (c, as') = one_constructor a b.at in
    subst (λ v. PatFault G q v f) (ap₂ held_at as' (held_alike c h b.holds) ∙ sym b.is) x

inner_told : (G : Sc) (p : Place) (s j : ℕ) (q : Pt) (t n u : Cn) (b : Bd) → HoldingData G s j t n u → BadTold G q u b → BadTold G (pattern p (is_holding s j q)) t b
inner_told G p s j q t n u (bind_these M) h k = tt
inner_told G p s j q t n u (bad_pattern f) h k = picks_as (PatFault G q u) (PatFault G (pattern p (is_holding s j q)) t) (Some f) (λ g y. in_held_there h y) (λ g y. held_there h y) k

holding_told : (G : Sc) (L : List Cn) (p : Place) (s j : ℕ) (q : Pt) (t : Cn) (d : Da) → DataTold G p s j t d → ((u : Cn) → BadTold G q u (binding G L q u)) → BadTold G (pattern p (is_holding s j q)) t (holding_binding G p d (λ u. binding G L q u))
holding_told G L p s j q t (bad_data f) h go = at_one (PatFault G (pattern p (is_holding s j q)) t) p f (λ g y. no_data_there h y) (holding_fault h)
holding_told G L p s j q t (bare_data n) h go =
    at_one (PatFault G (pattern p (is_holding s j q)) t) p (mismatch p G.called (arrow unit_con n) n) (λ g y. holds_nothing h y) (pat.holds_less h.at h.holds h.normal)
holding_told G L p s j q t (holding_data n u) h go = inner_told G p s j q t n u (binding G L q u) h (go u)

-- (p : t): its own fault and those of the inner pattern
annotated_lacks : {G : Sc} {p : Place} {q : Pt} {t u : Cn} {w : Flw} {f : Fault} → judged_at G.kinds u types ≡ Err w → PatFault G (pattern p (annotated q u)) t f → LacksKind G p u types f
annotated_lacks e (pat.bad_annotation l) = l
annotated_lacks {p = p} e (pat.other_annotation k d) = absurd (no_kind p k e)
annotated_lacks {p = p} e (pat.large_annotation k d) = absurd (no_kind p k e)
annotated_lacks {p = p} e (pat.in_annotated k x) = absurd (no_kind p k e)

annotated_one : {G : Sc} {p : Place} {q : Pt} {t u : Cn} {f : Fault} → HasKind G u types → PatFault G (pattern p (annotated q u)) t f → Or (Wants G p t u) (PatFault G q u) f
annotated_one k (pat.bad_annotation l) = absurd (kind_out k l)
annotated_one k (pat.other_annotation h d) = or_first (other d)
annotated_one k (pat.large_annotation h d) = or_first (large d)
annotated_one k (pat.in_annotated h x) = or_second x

one_annotated : {G : Sc} {p : Place} {q : Pt} {t u : Cn} {f : Fault} → HasKind G u types → Or (Wants G p t u) (PatFault G q u) f → PatFault G (pattern p (annotated q u)) t f
one_annotated k (or_first (other d)) = pat.other_annotation k d
one_annotated k (or_first (large d)) = pat.large_annotation k d
one_annotated k (or_second x) = pat.in_annotated k x

annotated_fault : (o : Option Fault) (b : Bd) → first o (fault_of b) ≡ fault_of (annotated_unless o b)
annotated_fault None b = refl
annotated_fault (Some f) (bind_these ts) = refl
annotated_fault (Some f) (bad_pattern h) = earlier_is f h

annotated_told : (G : Sc) (p : Place) (q : Pt) (t u : Cn) {r : Result Kd Flw} (b : Bd) → Kindly G u types r → Picks (PatFault G q u) (fault_of b) → BadTold G (pattern p (annotated q u)) t (annotated_binding G p t u r b)
annotated_told G p q t u b (unkind {w = w} e) h =
    picks_as (LacksKind G p u types) (PatFault G (pattern p (annotated q u)) t) (Some (flaw_at p G.called w))
    (λ f l. pat.bad_annotation l) (λ f y. annotated_lacks e y) (picks_flaw G p u types (Err w) (unkind e))
annotated_told G p q t u b (kindly k) h =
    bad_told G (pattern p (annotated q u)) t (annotated_unless (wants G p t u) b)
    (subst (λ (o : Option Fault). Picks (PatFault G (pattern p (annotated q u)) t) o) (annotated_fault (wants G p t u) b)
    (picks_as (Or (Wants G p t u) (PatFault G q u)) (PatFault G (pattern p (annotated q u)) t) (first (wants G p t u) (fault_of b))
    (λ f y. one_annotated k y) (λ f y. annotated_one k y) (picks_two (Wants G p t u) (PatFault G q u) (wants G p t u) (fault_of b) (picks_wants G p t u) h)))

-- one field: where nothing behind it can be looked at, its faults stand at it
pub record FieldThere (G : Sc) (n : Cn) (ps : List Cn) (v : Cn) (rs : List Cn) : Type 0 where
  pub name : Cn
  pub kind : HasKind G n names
  pub normal : normal_of n ≡ Some name
  pub there : field_of name ps ≡ Some (v, rs)

pub record FieldBad (G : Sc) (n : Cn) (q : Pt) (ps rs : List Cn) (f : Fault) : Type 0 where
  pub value : Cn
  pub field : FieldThere G n ps value rs
  pub told : Picks (PatFault G q value) (Some f)

pub record FieldBound (G : Sc) (n : Cn) (q : Pt) (ps rs : List Cn) : Type 0 where
  pub value : Cn
  pub field : FieldThere G n ps value rs
  pub bound : List Cn
  pub found : PatFound G q value bound

abbrev pub FieldTold : Sc → Place → Cn → Pt → Pfs → List Cn → Of → Type 0
FieldTold G p n q fs ps (stop_field f) = Picks (PatFieldsFault G (pat_field p n q fs) ps) (Some f)
FieldTold G p n q fs ps (bad_field f rs) = FieldBad G n q ps rs f
FieldTold G p n q fs ps (bound_field rs ts) = FieldBound G n q ps rs

lacks_name : {G : Sc} {p : Place} {n : Cn} {q : Pt} {fs : Pfs} {ps : List Cn} {w : Flw} {f : Fault} → judged_at G.kinds n names ≡ Err w → PatFieldsFault G (pat_field p n q fs) ps f → at f ≡ p
lacks_name e (pat.bad_name l) = lacks_at l
lacks_name e (pat.large_name h) = refl
lacks_name e (pat.no_field k h m) = refl
lacks_name {p = p} e (pat.in_field k h m x) = absurd (no_kind p k e)
lacks_name {p = p} e (pat.in_later_field k h m x) = absurd (no_kind p k e)

name_too_large : {G : Sc} {p : Place} {n : Cn} {q : Pt} {fs : Pfs} {ps : List Cn} {f : Fault} → normal_of n ≡ None → PatFieldsFault G (pat_field p n q fs) ps f → at f ≡ p
name_too_large e (pat.bad_name l) = lacks_at l
name_too_large e (pat.large_name h) = refl
name_too_large e (pat.no_field k h m) = refl
name_too_large e (pat.in_field k h m x) = absurd (no_value e h)
name_too_large e (pat.in_later_field k h m x) = absurd (no_value e h)

same_field : (n : Cn) (ps : List Cn) {m k : Cn} {x y : Cn × List Cn} → normal_of n ≡ Some m → normal_of n ≡ Some k → field_of m ps ≡ Some x → field_of k ps ≡ Some y → x ≡ y
same_field n ps h i e g = one_value e (ap (λ z. field_of z ps) (one_value h i) ∙ g)

no_such_field : (n : Cn) (ps : List Cn) {m k : Cn} {x : Cn × List Cn} → normal_of n ≡ Some m → normal_of n ≡ Some k → field_of m ps ≡ None → field_of k ps ≡ Some x → ⊥
no_such_field n ps h i e g = no_value e (ap (λ z. field_of z ps) (one_value h i) ∙ g)

not_there : {G : Sc} {p : Place} {n m : Cn} {q : Pt} {fs : Pfs} {ps : List Cn} {f : Fault} → normal_of n ≡ Some m → field_of m ps ≡ None → PatFieldsFault G (pat_field p n q fs) ps f → at f ≡ p
not_there e g (pat.bad_name l) = lacks_at l
not_there e g (pat.large_name h) = refl
not_there e g (pat.no_field k h m) = refl
not_there {n = n} {ps = ps} e g (pat.in_field k h m x) = absurd (no_such_field n ps e h g m)
not_there {n = n} {ps = ps} e g (pat.in_later_field k h m x) = absurd (no_such_field n ps e h g m)

bound_told : (G : Sc) (L : List Cn) (p : Place) (n v : Cn) (q : Pt) (fs : Pfs) (ps rs : List Cn) (b : Bd) → FieldThere G n ps v rs → BindsAs G L q v b → BadTold G q v b → FieldTold G p n q fs ps (field_bound rs b)
bound_told G L p n v q fs ps rs (bind_these M) k h w = record { value = v; field = k; bound = h.bound; found = h.found }
bound_told G L p n v q fs ps rs (bad_pattern f) k h w = record { value = v; field = k; told = w }

taken_told : (G : Sc) (L : List Cn) (p : Place) (n m : Cn) (q : Pt) (fs : Pfs) (ps : List Cn) (o : Option (Cn × List Cn)) → HasKind G n names → normal_of n ≡ Some m → field_of m ps ≡ o → ((v : Cn) → BadTold G q v (binding G L q v)) → FieldTold G p n q fs ps (field_taken G p m ps o (λ v. binding G L q v))
taken_told G L p n m q fs ps None k h e go = at_one (PatFieldsFault G (pat_field p n q fs) ps) p (no_field_there G p m ps) (λ g y. not_there h e y) (pat.no_field k h e)
taken_told G L p n m q fs ps (Some (v, rs)) k h e go = bound_told G L p n v q fs ps rs (binding G L q v) (record { name = m; kind = k; normal = h; there = e }) (pattern_binds G L q v) (go v)

named_told : (G : Sc) (L : List Cn) (p : Place) (n : Cn) (q : Pt) (fs : Pfs) (ps : List Cn) (o : Option Cn) → HasKind G n names → normal_of n ≡ o → ((v : Cn) → BadTold G q v (binding G L q v)) → FieldTold G p n q fs ps (field_named G p ps o (λ v. binding G L q v))
named_told G L p n q fs ps None k h go = at_one (PatFieldsFault G (pat_field p n q fs) ps) p (too_large p) (λ g y. name_too_large h y) (pat.large_name h)
named_told G L p n q fs ps (Some m) k h go = taken_told G L p n m q fs ps (field_of m ps) k h refl go

field_told : (G : Sc) (L : List Cn) (p : Place) (n : Cn) (q : Pt) (fs : Pfs) (ps : List Cn) {r : Result Kd Flw} → Kindly G n names r → ((v : Cn) → BadTold G q v (binding G L q v)) → FieldTold G p n q fs ps (field_binding G p n ps r (λ v. binding G L q v))
field_told G L p n q fs ps (unkind {w = w} e) go = at_one (PatFieldsFault G (pat_field p n q fs) ps) p (flaw_at p G.called w) (λ g y. lacks_name e y) (pat.bad_name (lacks e))
field_told G L p n q fs ps (kindly k) go = named_told G L p n q fs ps (normal_of n) k refl go

-- the faults of a field and of those behind it
field_and_later : {G : Sc} {p : Place} {n v : Cn} {q : Pt} {fs : Pfs} {ps rs : List Cn} {f : Fault} → FieldThere G n ps v rs → PatFieldsFault G (pat_field p n q fs) ps f → Or (PatFault G q v) (PatFieldsFault G fs rs) f
field_and_later k (pat.bad_name l) = absurd (kind_out k.kind l)
field_and_later k (pat.large_name h) = absurd (no_value h k.normal)
field_and_later {n = n} {ps = ps} k (pat.no_field g h m) = absurd (no_such_field n ps h k.normal m k.there)
field_and_later {G} {n = n} {q = q} {ps = ps} {f = f} k (pat.in_field g h m x) = or_first (subst (λ (y : Cn × List Cn). PatFault G q y.0 f) (same_field n ps h k.normal m k.there) x)
field_and_later {G} {n = n} {fs = fs} {ps = ps} {f = f} k (pat.in_later_field g h m x) = or_second (subst (λ (y : Cn × List Cn). PatFieldsFault G fs y.1 f) (same_field n ps h k.normal m k.there) x)

of_field : {G : Sc} {p : Place} {n v : Cn} {q : Pt} {fs : Pfs} {ps rs : List Cn} {f : Fault} → FieldThere G n ps v rs → Or (PatFault G q v) (PatFieldsFault G fs rs) f → PatFieldsFault G (pat_field p n q fs) ps f
of_field k (or_first x) = pat.in_field k.kind k.normal k.there x
of_field k (or_second x) = pat.in_later_field k.kind k.normal k.there x

-- what is told of fields, with what was told before; where nothing is, what they are found to leave
abbrev pub FieldsTold : Sc → Option Fault → Pfs → List Cn → Fb → Type 0
FieldsTold G told fs ps (bind_fields rs M) = Untold told ((ts : List Cn) × PatFieldsFound G fs ps rs ts)
FieldsTold G told fs ps (bad_fields f) = Picks (Or (Given told) (PatFieldsFault G fs ps)) (Some f)

-- one of the first of some faults stands for them
picks_through : (P Q : Fault → Type 0) (f g : Fault) → Picks P (Some f) → Picks (Or (Just f) Q) (Some g) → Picks (Or P Q) (Some g)
picks_through P Q f g h (x, l) = (there x, least)
  where
    there : {k : Fault} → Or (Just f) Q k → Or P Q k
    there (or_first just) = or_first h.0
    there (or_second y) = or_second y

    least : (k : Fault) → Or P Q k → Earlier (at k) (at g) → ⊥
    least k (or_first y) e = none_before (at k) (at g) (at f) (h.1 k y) (l f (or_first just)) e
    least k (or_second y) e = l k (or_second y) e

-- a field at fault
after_bad : (G : Sc) (told : Option Fault) (p : Place) (n v : Cn) (q : Pt) (fs : Pfs) (ps rs : List Cn) (f : Fault) (b : Fb) → FieldThere G n ps v rs → Picks (PatFault G q v) (Some f) → FieldsTold G (Some (with_told told f)) fs rs b → FieldsTold G told (pat_field p n q fs) ps b
after_bad G told p n v q fs ps rs f (bind_fields us M) k h w = absurd w
after_bad G told p n v q fs ps rs f (bad_fields g) k h w =
    picks_as (Or (Or (Given told) (PatFault G q v)) (PatFieldsFault G fs rs)) (Or (Given told) (PatFieldsFault G (pat_field p n q fs) ps)) (Some g) there back
    (picks_through (Or (Given told) (PatFault G q v)) (PatFieldsFault G fs rs) (with_told told f) g
    (subst (λ (o : Option Fault). Picks (Or (Given told) (PatFault G q v)) o) (with_told_is told f) (picks_two (Given told) (PatFault G q v) told (Some f) (picks_given told) h))
    w)
  where
    there : (i : Fault) → Or (Or (Given told) (PatFault G q v)) (PatFieldsFault G fs rs) i → Or (Given told) (PatFieldsFault G (pat_field p n q fs) ps) i
    there i (or_first (or_first x)) = or_first x
    there i (or_first (or_second x)) = or_second (of_field k (or_first x))
    there i (or_second x) = or_second (of_field k (or_second x))

    behind : (i : Fault) → Or (PatFault G q v) (PatFieldsFault G fs rs) i → Or (Or (Given told) (PatFault G q v)) (PatFieldsFault G fs rs) i
    behind i (or_first x) = or_first (or_second x)
    behind i (or_second x) = or_second x

    back : (i : Fault) → Or (Given told) (PatFieldsFault G (pat_field p n q fs) ps) i → Or (Or (Given told) (PatFault G q v)) (PatFieldsFault G fs rs) i
    back i (or_first x) = or_first (or_first x)
    back i (or_second x) = behind i (field_and_later k x)

-- a field that binds
after_bound : (G : Sc) (told : Option Fault) (p : Place) (n : Cn) (q : Pt) (fs : Pfs) (ps rs : List Cn) (b : Fb) → FieldBound G n q ps rs → FieldsTold G told fs rs b → FieldsTold G told (pat_field p n q fs) ps b
after_bound G None p n q fs ps rs (bind_fields us M) k (ts, x) = (ts ++ k.bound, one_binds k.field.kind k.field.normal k.field.there k.found x)
after_bound G (Some f) p n q fs ps rs (bind_fields us M) k w = w
after_bound G told p n q fs ps rs (bad_fields g) k w = picks_as (Or (Given told) (PatFieldsFault G fs rs)) (Or (Given told) (PatFieldsFault G (pat_field p n q fs) ps)) (Some g) there back w
  where
    there : (i : Fault) → Or (Given told) (PatFieldsFault G fs rs) i → Or (Given told) (PatFieldsFault G (pat_field p n q fs) ps) i
    there i (or_first x) = or_first x
    there i (or_second x) = or_second (of_field k.field (or_second x))

    later : (i : Fault) → Or (PatFault G q k.value) (PatFieldsFault G fs rs) i → Or (Given told) (PatFieldsFault G fs rs) i
    later i (or_first x) = absurd (pattern_out x k.found)
    later i (or_second x) = or_second x

    back : (i : Fault) → Or (Given told) (PatFieldsFault G (pat_field p n q fs) ps) i → Or (Given told) (PatFieldsFault G fs rs) i
    back i (or_first x) = or_first x
    back i (or_second x) = later i (field_and_later k.field x)

after_told : (G : Sc) (told : Option Fault) (L : List Cn) (p : Place) (n : Cn) (q : Pt) (fs : Pfs) (ps : List Cn) (o : Of) → FieldTold G p n q fs ps o
    → ((t : Option Fault) (M rs : List Cn) → FieldsTold G t fs rs (fields_binding G t M fs rs))
    → FieldsTold G told (pat_field p n q fs) ps (after_field told L o (λ t M rs. fields_binding G t M fs rs))
after_told G told L p n q fs ps (stop_field f) w go =
    subst (λ (o : Option Fault). Picks (Or (Given told) (PatFieldsFault G (pat_field p n q fs) ps)) o) (with_told_is told f)
    (picks_two (Given told) (PatFieldsFault G (pat_field p n q fs) ps) told (Some f) (picks_given told) w)
after_told G told L p n q fs ps (bad_field f rs) w go =
    after_bad G told p n w.value q fs ps rs f (fields_binding G (Some (with_told told f)) L fs rs) w.field w.told (go (Some (with_told told f)) L rs)
after_told G told L p n q fs ps (bound_field rs ts) w go = after_bound G told p n q fs ps rs (fields_binding G told ts fs rs) w (go told ts rs)

no_fields_fault : {G : Sc} {ps : List Cn} (f : Fault) → PatFieldsFault G no_pat_fields ps f → ⊥
no_fields_fault f x = elim x [ ]

none_told : (G : Sc) (told : Option Fault) (L ps : List Cn) → FieldsTold G told no_pat_fields ps (all_fields told ps L)
none_told G None L ps = ([], none_bind)
none_told G (Some f) L ps = picks_two (Just f) (PatFieldsFault G no_pat_fields ps) (Some f) None (picks_just f) (λ g x. no_fields_fault g x)

-- records
no_record_at : {G : Sc} {p : Place} {fs : Pfs} {b : Bool} {t n : Cn} {f : Fault} → normal_of t ≡ Some n → (IsRecord n → ⊥) → PatFault G (pattern p (has_fields fs b)) t f → at f ≡ p
no_record_at h w (pat.no_record e d) = refl
no_record_at h w (pat.large_record e) = refl
no_record_at h w (pat.in_fields {r = r} e x) = absurd (w (r, one_value h e))
no_record_at h w (pat.fields_left e x) = refl

large_record_at : {G : Sc} {p : Place} {fs : Pfs} {b : Bool} {t : Cn} {f : Fault} → normal_of t ≡ None → PatFault G (pattern p (has_fields fs b)) t f → at f ≡ p
large_record_at h (pat.no_record e d) = refl
large_record_at h (pat.large_record e) = refl
large_record_at h (pat.in_fields e x) = absurd (no_value h e)
large_record_at h (pat.fields_left e x) = refl

in_these_fields : {G : Sc} {p : Place} {fs : Pfs} {b : Bool} {t r : Cn} {f g : Fault} → normal_of t ≡ Some (record_of r) → PatFieldsFault G fs (ordered_pieces r) g → PatFault G (pattern p (has_fields fs b)) t f → PatFieldsFault G fs (ordered_pieces r) f
in_these_fields {r = r} h k (pat.no_record e d) = absurd (d r (one_value e h))
in_these_fields h k (pat.large_record e) = absurd (no_value e h)
in_these_fields {G} {fs = fs} {f = f} h k (pat.in_fields e x) = subst (λ v. PatFieldsFault G fs (ordered_pieces v) f) (one_record e h) x
in_these_fields {G} {fs = fs} {g = g} h k (pat.fields_left e x) = absurd (fields_out (subst (λ v. PatFieldsFault G fs (ordered_pieces v) g) (one_record h e) k) x)

left_at : {G : Sc} {p : Place} {fs : Pfs} {b : Bool} {t r : Cn} {rs ts : List Cn} {f : Fault} → normal_of t ≡ Some (record_of r) → PatFieldsFound G fs (ordered_pieces r) rs ts → PatFault G (pattern p (has_fields fs b)) t f → at f ≡ p
left_at h k (pat.no_record e d) = refl
left_at h k (pat.large_record e) = refl
left_at {G} {fs = fs} {f = f} h k (pat.in_fields e x) = absurd (fields_out (subst (λ v. PatFieldsFault G fs (ordered_pieces v) f) (one_record e h) x) k)
left_at h k (pat.fields_left e x) = refl

rest_told : (G : Sc) (p : Place) (fs : Pfs) (more : Bool) (t r : Cn) (rs M : List Cn) → normal_of t ≡ Some (record_of r) → (ts : List Cn) × PatFieldsFound G fs (ordered_pieces r) rs ts → BadTold G (pattern p (has_fields fs more)) t (rest_binding G p more rs M)
rest_told G p fs true t r rs M h k = tt
rest_told G p fs false t r [] M h k = tt
rest_told G p fs false t r (c ∷ rs) M h (ts, k) =
    at_one (PatFault G (pattern p (has_fields fs false)) t) p (mismatch p G.called (pat.left_over (c ∷ rs)) unit_type) (λ g y. left_at h k y) (pat.fields_left h k)

whole_told : (G : Sc) (p : Place) (fs : Pfs) (more : Bool) (t r : Cn) (b : Fb) → normal_of t ≡ Some (record_of r) → FieldsTold G None fs (ordered_pieces r) b → BadTold G (pattern p (has_fields fs more)) t (whole_binding G p more b)
whole_told G p fs more t r (bind_fields rs M) h k = rest_told G p fs more t r rs M h k
whole_told G p fs more t r (bad_fields f) h k =
    picks_as (PatFieldsFault G fs (ordered_pieces r)) (PatFault G (pattern p (has_fields fs more)) t) (Some f)
    (λ g x. pat.in_fields h x) (λ g x. in_these_fields h w.0 x) w
  where
    w : Picks (PatFieldsFault G fs (ordered_pieces r)) (Some f)
    w = picks_start (PatFieldsFault G fs (ordered_pieces r)) (Some f) k

row_told : (G : Sc) (p : Place) (fs : Pfs) (more : Bool) (t n : Cn) (o : Option Cn) (go : List Cn → Fb) → normal_of t ≡ Some n → Rec n o → ((ps : List Cn) → FieldsTold G None fs ps (go ps)) → BadTold G (pattern p (has_fields fs more)) t (row_binding G p more n o go)
row_told G p fs more t n o go h (no_rec w) k =
    at_one (PatFault G (pattern p (has_fields fs more)) t) p (mismatch p G.called n (record_of (type_row no_pairs))) (λ g y. no_record_at h w y) (pat.no_record h (λ r e. w (r, e)))
row_told G p fs more t n o go h (a_record r) k = whole_told G p fs more t r (go (ordered_pieces r)) h (k (ordered_pieces r))

record_told : (G : Sc) (p : Place) (fs : Pfs) (more : Bool) (t : Cn) (o : Option Cn) (go : List Cn → Fb) → normal_of t ≡ o → ((ps : List Cn) → FieldsTold G None fs ps (go ps)) → BadTold G (pattern p (has_fields fs more)) t (record_binding G p more o go)
record_told G p fs more t None go h k = at_one (PatFault G (pattern p (has_fields fs more)) t) p (too_large p) (λ g y. large_record_at h y) (pat.large_record h)
record_told G p fs more t (Some n) go h k = row_told G p fs more t n (record_row n) go h (record_view n) k

mutual
  pattern_bad : (G : Sc) (L : List Cn) (q : Pt) (t : Cn) → BadTold G q t (binding G L q t)
  pattern_bad G L (pattern p f) t = form_bad G L p f t

  form_bad : (G : Sc) (L : List Cn) (p : Place) (f : Pf) (t : Cn) → BadTold G (pattern p f) t (form_binding G L p f t)
  form_bad G L p any t = tt
  form_bad G L p (binds x u) t = variable_told G L p x t u (kind_is G u types)
  form_bad G L p (is_number z) t = unless_told G p (pattern p (is_number z)) t int_type L (wants G p t int_type) (picks_wants G p t int_type) (λ f y. wants_number y) (λ f y. number_wants y)
  form_bad G L p (is_text w) t = unless_told G p (pattern p (is_text w)) t string_type L (wants G p t string_type) (picks_wants G p t string_type) (λ f y. wants_text y) (λ f y. text_wants y)
  form_bad G L p (is_bare s j) t = bare_told G L p s j t (data_at G p s j t) (data_told G p s j t)
  form_bad G L p (is_holding s j q) t = holding_told G L p s j q t (data_at G p s j t) (data_told G p s j t) (λ u. pattern_bad G L q u)
  form_bad G L p (has_fields fs more) t = record_told G p fs more t (normal_of t) (λ ps. fields_binding G None L fs ps) refl (λ ps. fields_bad G None L fs ps)
  form_bad G L p (annotated q u) t = annotated_told G p q t u (binding G L q u) (kind_is G u types) (picks_bound G L q u (pattern_bad G L q u))

  fields_bad : (G : Sc) (told : Option Fault) (L : List Cn) (fs : Pfs) (ps : List Cn) → FieldsTold G told fs ps (fields_binding G told L fs ps)
  fields_bad G told L no_pat_fields ps = none_told G told L ps
  fields_bad G told L (pat_field p n q fs) ps =
      after_told G told L p n q fs ps (field_binding G p n ps (judged_at G.kinds n names) (λ v. binding G L q v))
      (field_told G L p n q fs ps (kind_is G n names) (λ v. pattern_bad G L q v)) (λ t M rs. fields_bad G t M fs rs)

-- what is computed of a pattern: what it is found to bind, or one of the first of its faults
pub pattern_tells : (G : Sc) (L : List Cn) (q : Pt) (t : Cn) → Picks (PatFault G q t) (fault_of (binding G L q t))
pattern_tells G L q t = picks_bound G L q t (pattern_bad G L q t)
