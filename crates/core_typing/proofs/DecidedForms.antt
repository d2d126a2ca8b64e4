-- What comparisons, kinds, rows, heads of types and datatypes come to.
use Rattle.std.proofs.Common.{◌≡◌, ℕ, Bool, true, false, ◌==◌, List, [], Option, Some, None, slice_get, Result, Ok, Err, refl, ap, sym, ◌∙◌, ◌⊎◌, inl, inr}
use Rattle.std.proofs.lemmas.Bool.Decides.{Decides-eqb}
use Rattle.con_terms.specs.Trees.{Kd, Cn}
use Rattle.con_terms.specs.declared.place.Place.{Place}
use Rattle.row_normal.specs.SameTree.{cn_eq}
use Rattle.row_normal.specs.NormalForm.{nf}
use Rattle.row_normal.proofs.SameTrees.{cn_eq_same, cn_eq_refl}
use Rattle.kind_rules.specs.Flaws.{Flw, pieces_touch, too_large}
use Rattle.kind_rules.specs.Compared.{comparison_units, normal_forms, with_first, with_second, touch_flaw, forms_flaw, not_apart}
use Rattle.disjoint_prover.specs.Separation.{first_touch}
use Rattle.kind_rules.specs.Rules.{expects}
use Rattle.kind_rules.specs.Kinding.{judged, judged_at}
use Rattle.kind_rules.proofs.Sound.{follows, expected}
use Rattle.core_terms.specs.Trees.{Ex, Cd, Dt}
use Rattle.core_terms.specs.Datatypes.{datatype_of}
use Rattle.core_typing.specs.Scopes.{Sc, normal_of}
use Rattle.core_typing.specs.Seen.{Seen, a_number, a_text, a_datatype, a_record, nothing_more, seen}
use Rattle.core_typing.specs.Cover.{Covers}
use Rattle.core_typing.specs.Compared.{Alike, Differ, Large, Disjoint}
use Rattle.core_typing.specs.Judged.{HasKind, has, LacksKind, lacks, flaw_at}
use Rattle.core_typing.specs.Faults.{Fault}
use Rattle.core_typing.specs.Faults as fault
use Rattle.core_typing.specs.PatternFaults.{Constructs, AtData}
use Rattle.core_typing.specs.Found.{FoundBy, Found}
use Rattle.core_typing.specs.Own.{place_of, any_function, any_poly, any_guarded, any_record, Wants, NotOf, other_form, large_form, IsFunction, IsPoly, IsGuarded, IsRecord, Meets, they_touch, they_are_large, Uncovered, CallsTop, top_alone, top_called, NotLinked, ItemFault, NamedFault, LocalFault, BranchFault, BranchDiffers, FieldFault, AttributeFault, SecondAt, AttributeTwice, NodeFault, NotWords, NotHeld, held_there, large_there, ElementFault, PatsFound, no_pats, a_pat, Own}
use Rattle.core_typing.specs.Own as own
use Rattle.core_typing.specs.Tells.{Sub, Fails, itself, inside}
use Rattle.core_typing.proofs.FoundLess.{found_asking_less}
use Rattle.core_typing.proofs.Matched.{seen_as, symbol_of}
use Rattle.core_typing.proofs.OneType.{one_value}
use Rattle.core_typing.proofs.Excluded.{differ_out, large_out}

-- what is decided of a term
abbrev pub Fd : Sc → Ex → Type 0
Fd G e = (t : Cn) × FoundBy Covers G e t

abbrev pub Fl : Sc → Ex → Type 0
Fl G e = (f : Fault) × Fails G e f

abbrev pub Told : (Fault → Type 0) → Type 0
Told F = (f : Fault) × F f

pub own_fails : {G : Sc} {e : Ex} {f : Fault} → Own G e f → Fl G e
own_fails {f = f} o = (f, itself o)

pub part_fails : {G H : Sc} {e c : Ex} → Sub G e H c → Fl H c → Fl G e
part_fails s x = (x.0, inside s x.1)

pub bare : {G : Sc} {e : Ex} {t : Cn} → FoundBy Covers G e t → Found G e t
bare {G} {e} {t} h = found_asking_less G e t h

-- comparisons
pub data Compared (t u : Cn) : Type 0 where
  alike : Alike t u → Compared t u
  differs : (m n : Cn) → Differ t u m n → Compared t u
  is_large : Large t u → Compared t u

pub second_flaw : (m : Cn) (o : Option (Cn × ℕ)) (w : Flw) → with_second m o ≡ Err w → w ≡ too_large
second_flaw m None w e = let i : too_large ≡ w = cc in sym i
second_flaw m (Some n) w e = cc

pub first_flaw : (o : Option (Cn × ℕ)) (b : Cn) (w : Flw) → with_first o b ≡ Err w → w ≡ too_large
first_flaw None b w e = let i : too_large ≡ w = cc in sym i
first_flaw (Some m) b w e = second_flaw m.0 (nf m.1 b) w e

pub only_large : (a b : Cn) (w : Flw) → normal_forms comparison_units a b ≡ Err w → w ≡ too_large
only_large a b w e = first_flaw (nf comparison_units a) b w e

pub same_pair : (x : Cn × Cn) → x.0 ≡ x.1 → x ≡ (x.0, x.0)
same_pair x e = ap (λ z. (x.0, z)) (sym e)

pub by_trees : (t u : Cn) (x : Cn × Cn) (b : Bool) → normal_forms comparison_units t u ≡ Ok x → cn_eq x.0 x.1 ≡ b → Compared t u
by_trees t u x true e h = alike (record { form = x.0; forms = e ∙ ap (λ z. Ok z) (same_pair x (cn_eq_same x.0 x.1 h)) })
by_trees t u x false e h = differs x.0 x.1 (record { normal = e; differ = λ i. let k : cn_eq x.0 x.1 ≡ true = ap (λ z. cn_eq x.0 z) (sym i) ∙ cn_eq_refl x.0 in cc })

pub by_forms : (t u : Cn) (r : Result (Cn × Cn) Flw) → normal_forms comparison_units t u ≡ r → Compared t u
by_forms t u (Ok x) e = by_trees t u x (cn_eq x.0 x.1) e refl
by_forms t u (Err w) e = is_large (e ∙ ap (λ z. Err z) (only_large t u w e))

pub compare : (t u : Cn) → Compared t u
compare t u = by_forms t u (normal_forms comparison_units t u) refl

-- wanted, or what is told
pub wanted : (G : Sc) (p : Place) (t u : Cn) → Alike t u ⊎ Told (Wants G p t u)
wanted G p t u = by_compared (compare t u)
  where
    by_compared : Compared t u → Alike t u ⊎ Told (Wants G p t u)
    by_compared (alike a) = inl a
    by_compared (differs m n d) = inr (fault.mismatch p G.called m n, own.other d)
    by_compared (is_large l) = inr (fault.too_large p, own.large l)

pub not_alike : {G : Sc} {p : Place} {t u : Cn} → Told (Wants G p t u) → Alike t u → ⊥
not_alike (f, own.other d) a = differ_out a d
not_alike (f, own.large l) a = large_out a l

-- kinds
pub kind_found : {G : Sc} {c : Cn} {k : Kd} (r : Result Kd Flw) → judged_at G.kinds c k ≡ r → HasKind G c k ⊎ ((p : Place) → Told (LacksKind G p c k))
kind_found {G} {c} {k} (Ok l) e =
    let w = follows (judged G.kinds c) (expects k) l e in
    let (i, j) = expected k w.x l w.then' in
    inl (has (e ∙ ap (λ z. Ok z) (sym (i ∙ j))))
kind_found {G} (Err w) e = inr (λ p. (flaw_at p G.called w, lacks e))

pub kinding : (G : Sc) (c : Cn) (k : Kd) → HasKind G c k ⊎ ((p : Place) → Told (LacksKind G p c k))
kinding G c k = kind_found (judged_at G.kinds c k) refl

-- rows
pub touching : (G : Sc) (p : Place) (a b : Cn) (r : Result (Cn × Cn) Flw) (o : Option Flw) → normal_forms comparison_units a b ≡ r → not_apart G.kinds.guards a b ≡ o → forms_flaw G.kinds.guards r ≡ o → Disjoint G.kinds.guards a b ⊎ Told (Meets G p a b)
touching G p a b r None h e g = inl (record { none_touch = e })
touching G p a b (Err v) (Some w) h e g = inr (fault.too_large p, they_are_large (h ∙ ap (λ z. Err z) (only_large a b v h)))
touching G p a b (Ok x) (Some w) h e g = by_touch (first_touch G.kinds.guards x.0 x.1) refl g
  where
    by_touch : (t : Option (Cn × Cn)) → first_touch G.kinds.guards x.0 x.1 ≡ t → touch_flaw t ≡ Some w → Disjoint G.kinds.guards a b ⊎ Told (Meets G p a b)
    by_touch None k i = cc
    by_touch (Some y) k i = let j : pieces_touch y.0 y.1 ≡ w = cc in inr (fault.not_disjoint p G.called y.0 y.1, they_touch (e ∙ ap (λ z. Some z) (sym j)))

pub apartness : (G : Sc) (p : Place) (a b : Cn) → Disjoint G.kinds.guards a b ⊎ Told (Meets G p a b)
apartness G p a b = touching G p a b (normal_forms comparison_units a b) (not_apart G.kinds.guards a b) refl refl refl

-- heads of types
pub data Head (F : Cn → Type 0) (t : Cn) : Type 0 where
  no_form : normal_of t ≡ None → Head F t
  head : (n : Cn) → normal_of t ≡ Some n → F n → Head F t
  no_head : (n : Cn) → normal_of t ≡ Some n → (F n → ⊥) → Head F t

pub head_of : (F : Cn → Type 0) → ((n : Cn) → F n ⊎ (F n → ⊥)) → (t : Cn) (o : Option Cn) → normal_of t ≡ o → Head F t
head_of F d t None e = no_form e
head_of F d t (Some n) e = by_test (d n)
  where
    by_test : F n ⊎ (F n → ⊥) → Head F t
    by_test (inl x) = head n e x
    by_test (inr x) = no_head n e x

-- datatypes
pub data DataAt (G : Sc) (s j : ℕ) (t : Cn) : Type 0 where
  at_data : (c : Cd) (args : List Cn) → AtData G s j t c args → DataAt G s j t
  unknown : ((d : Dt) (c : Cd) → Constructs G s j d c → ⊥) → DataAt G s j t
  too_big : normal_of t ≡ None → DataAt G s j t
  elsewhere : (d : Dt) (c : Cd) (n : Cn) → Constructs G s j d c → normal_of t ≡ Some n → ((args : List Cn) → seen G.datatypes n ≡ a_datatype d args → ⊥) → DataAt G s j t

pub none_some : {X : Type 0} {o : Option X} {x : X} → o ≡ None → o ≡ Some x → ⊥
none_some h k = let e = sym h ∙ k in cc

pub same_data : (ds : List Dt) (n : Cn) (d e : Dt) (args : List Cn) (s : ℕ) → datatype_of ds s ≡ Some d → seen ds n ≡ a_datatype e args → e.symbol ≡ s → e ≡ d
same_data ds n d e args s h g i =
    let w = seen_as ds n [] e args g in
    one_value (ap (datatype_of ds) (symbol_of ds w.symbol e w.declared) ∙ w.declared) (ap (datatype_of ds) i ∙ h)

pub seen_here : (G : Sc) (s j : ℕ) (t n : Cn) (d : Dt) (c : Cd) → Constructs G s j d c → normal_of t ≡ Some n → (x : Seen) → seen G.datatypes n ≡ x → DataAt G s j t
seen_here G s j t n d c k h (a_datatype e args) g = by_test (e.symbol == s) refl
  where
    by_test : (b : Bool) → (e.symbol == s) ≡ b → DataAt G s j t
    by_test true i = at_data c args (record { d = d; n = n; constructs = k; normal = h; at_datatype = g ∙ ap (λ z. a_datatype z args) (same_data G.datatypes n d e args s k.declared g ((Decides-eqb e.symbol s).0 i)) })
    by_test false i = elsewhere d c n k h (λ more f.
        let l : a_datatype e args ≡ a_datatype d more = sym g ∙ f in
        let m : e ≡ d = cc in
        let o : (e.symbol == s) ≡ true = (Decides-eqb e.symbol s).1 (ap (λ (z : Dt). z.symbol) m ∙ symbol_of G.datatypes s d k.declared) in
        cc)
seen_here G s j t n d c k h a_number g = elsewhere d c n k h (λ more f. let l = sym g ∙ f in cc)
seen_here G s j t n d c k h a_text g = elsewhere d c n k h (λ more f. let l = sym g ∙ f in cc)
seen_here G s j t n d c k h (a_record fs) g = elsewhere d c n k h (λ more f. let l = sym g ∙ f in cc)
seen_here G s j t n d c k h nothing_more g = elsewhere d c n k h (λ more f. let l = sym g ∙ f in cc)

pub constructed : (G : Sc) (s j : ℕ) (t : Cn) (d : Dt) (c : Cd) → Constructs G s j d c → (o : Option Cn) → normal_of t ≡ o → DataAt G s j t
constructed G s j t d c k None h = too_big h
constructed G s j t d c k (Some n) h = seen_here G s j t n d c k h (seen G.datatypes n) refl

pub in_datatype : (G : Sc) (s j : ℕ) (t : Cn) (d : Dt) → datatype_of G.datatypes s ≡ Some d → (o : Option Cd) → slice_get d.constructors j ≡ o → DataAt G s j t
in_datatype G s j t d e (Some c) g = constructed G s j t d c (record { declared = e; constructor = g }) (normal_of t) refl
in_datatype G s j t d e None g = unknown (λ b c k. none_some (ap (λ (z : Dt). slice_get z.constructors j) (one_value k.declared e) ∙ g) k.constructor)

pub by_declared : (G : Sc) (s j : ℕ) (t : Cn) (o : Option Dt) → datatype_of G.datatypes s ≡ o → DataAt G s j t
by_declared G s j t None e = unknown (λ d c k. none_some e k.declared)
by_declared G s j t (Some d) e = in_datatype G s j t d e (slice_get d.constructors j) refl

pub data_at : (G : Sc) (s j : ℕ) (t : Cn) → DataAt G s j t
data_at G s j t = by_declared G s j t (datatype_of G.datatypes s) refl
