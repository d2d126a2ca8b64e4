-- Of a constructor that has a kind this kind is told, or what keeps two rows from being apart, and nothing else.
use Rattle.std.proofs.Common.{◌≡◌, ℕ, Bool, true, false, List, [], ◌∷◌, Option, Some, None, Result, Ok, Err, MatchResult, slice_get, if◌then◌else◌, refl, ap, sym, ◌∙◌, subst}
use Rattle.std.specs.Option.{option_or}
use Rattle.con_terms.specs.Trees.{Kd, types, names, row_of, to, tuple_of, Kds, kind, kind_list, Cn, var, basic, arrow, poly, guarded, record_of, app, lambda, unit_con, name, row, cat, map_of, tuple, proj, Cns, no_cons, con, Prs, no_pairs, pair, names_of}
use Rattle.con_terms.specs.Same.{kd_eq}
use Rattle.con_terms.specs.View.{kinds_from}
use Rattle.con_terms.specs.Equal.{back}
use Rattle.con_terms.specs.Apart.{Guards}
use Rattle.con_terms.specs.Kinded.{Scope, basic_kind, bind, assume, Kinded, of_var, of_basic, of_arrow, of_poly, of_guarded, of_record, of_app, of_lambda, of_unit, of_name, of_row, of_cat, of_map, of_tuple, of_proj, KindedAll, no_components, a_component, KindedPairs, no_fields, a_field}
use Rattle.con_terms.proofs.SameKinds.{kd_eq_refl}
use Rattle.con_terms.specs.declared.place.Place.{Place}
use Rattle.disjoint_prover.specs.Separation.{first_touch}
use Rattle.row_normal.specs.NormalForm.{nf}
use Rattle.kind_rules.specs.Faults.{Refuses, IsOfComparison, TellsComparison}
use Rattle.kind_rules.specs.Flaws.{Flw, unbound_variable, unbound_basic, kinds_differ, pieces_touch, too_large, closed_by}
use Rattle.kind_rules.specs.Compared.{comparison_units, with_second, with_first, normal_forms, touch_flaw, forms_flaw, not_apart, not_apart_from, not_pairwise_apart}
use Rattle.kind_rules.specs.Rules.{and_then, unless, or_flaw, both, outside_of, unlike, expects, expects_row, type_kind, arrow_kind, guard_rows, guard_sides, record_kind, applied_kind, app_kind, lambda_kind, same_rows, cat_kind, fields_flaw, row_flaw, component_kind}
use Rattle.kind_rules.specs.Kinding.{kinding, kinding_all, kinding_fields, judged}
use Rattle.kind_rules.specs.declared.fault.KindFault.{KindFault}
use Rattle.kind_rules.specs.declared.fault.KindFault.TheVariants.{Unbound, KindMismatch, NotDisjoint, TooLarge, Memory}
use Rattle.kind_rules.proofs.Guarded.{kinded_under}
use Rattle.kind_rules.proofs.Sound.{forms_equal}

-- what is found has a property, or there is a flaw of a comparison
abbrev pub Holds : {X : Type 0} → (X → Type 0) → Result X Flw → Type 0
Holds P (Ok x) = P x
Holds P (Err e) = IsOfComparison e

abbrev Compares : Option Flw → Type 0
Compares None = Unit {0}
Compares (Some e) = IsOfComparison e

abbrev Is : Kd → Kd → Type 0
Is k l = l ≡ k

abbrev Are : Kd → Kd → Kd × Kd → Type 0
Are k l m = m ≡ (k, l)

then_holds : {X Y : Type 0} (P : X → Type 0) (Q : Y → Type 0) (r : Result X Flw) (f : X → Result Y Flw) → Holds P r → ((x : X) → P x → Holds Q (f x)) → Holds Q (and_then r f)
then_holds P Q (Ok x) f h g = g x h
then_holds P Q (Err e) f h g = h

unless_holds : {X : Type 0} (P : X → Type 0) (o : Option Flw) (x : X) → Compares o → P x → Holds P (unless o x)
unless_holds P None x h p = p
unless_holds P (Some e) x h p = h

or_compares : (o p : Option Flw) → Compares o → Compares p → Compares (option_or o p)
or_compares None p h g = g
or_compares (Some e) p h g = h

none_compares : (o : Option Flw) → o ≡ None → Compares o
none_compares None h = tt
none_compares (Some e) h = cc

there_holds : {X : Type 0} (P : X → Type 0) (e : Flw) (o : Option X) (x : X) → o ≡ Some x → P x → Holds P (or_flaw e o)
there_holds {X} P e o x is p = let Q : Option X → Type 0 = λ z. Holds P (or_flaw e z) in subst Q (sym is) p

-- under a binder
closed_compares : (k : Kd) (e : Flw) → IsOfComparison e → IsOfComparison (closed_by k e)
closed_compares k (unbound_variable i) h = h
closed_compares k (unbound_basic s) h = h
closed_compares k (kinds_differ l m) h = h
closed_compares k (pieces_touch p q) h = tt
closed_compares k too_large h = tt

outside_holds : {X : Type 0} (P : X → Type 0) (k : Kd) (r : Result X Flw) → Holds P r → Holds P (outside_of k r)
outside_holds P k (Ok x) h = h
outside_holds P k (Err e) h = closed_compares k e h

-- kinds that are one
like_none : (k l : Kd) → l ≡ k → unlike k l ≡ None
like_none k l e =
    let t : kd_eq k l ≡ true = ap (kd_eq k) e ∙ kd_eq_refl k in
    ap (λ (b : Bool). if b then None else Some (kinds_differ k l)) t

expects_holds : (k l : Kd) → l ≡ k → Holds (Is k) (expects k l)
expects_holds k l e = unless_holds (Is k) (unlike k l) l (none_compares (unlike k l) (like_none k l e)) e

row_holds : (k l : Kd) → l ≡ row_of k → Holds (Is (row_of k)) (expects_row l)
row_holds k l e = let P : Kd → Type 0 = λ z. Holds (Is (row_of k)) (expects_row z) in subst P (sym e) refl

both_holds : (k l : Kd) (r s : Result Kd Flw) → Holds (Is k) r → Holds (Is l) s → Holds (Are k l) (both r s)
both_holds k l r s h g =
    then_holds (Is k) (Are k l) r (λ x. and_then s (λ y. Ok (x, y))) h
    (λ x e. then_holds (Is l) (Are k l) s (λ y. Ok (x, y)) g (λ y i. ap (λ z. (z, y)) e ∙ ap (λ z. (k, z)) i))

first_of : (k l : Kd) (m : Kd × Kd) → m ≡ (k, l) → m.0 ≡ k
first_of k l m e = ap (λ (z : Kd × Kd). z.0) e

second_of : (k l : Kd) (m : Kd × Kd) → m ≡ (k, l) → m.1 ≡ l
second_of k l m e = ap (λ (z : Kd × Kd). z.1) e

-- comparisons
second_compares : {P : Cn × Cn → Type 0} (m : Cn) (o : Option (Cn × ℕ)) → ((mn : Cn × Cn) → with_second m o ≡ Ok mn → P mn) → Holds P (with_second m o)
second_compares m None p = tt
second_compares m (Some n) p = p (m, n.0) refl

forms_hold : (a b : Cn) → Holds (λ mn. normal_forms comparison_units a b ≡ Ok mn) (normal_forms comparison_units a b)
forms_hold a b = by_first (nf comparison_units a)
  where
    by_first : (o : Option (Cn × ℕ)) → Holds (λ mn. with_first o b ≡ Ok mn) (with_first o b)
    by_first None = tt
    by_first (Some m) = second_compares m.0 (nf m.1 b) (λ mn e. e)

touch_compares : (o : Option (Cn × Cn)) → Compares (touch_flaw o)
touch_compares None = tt
touch_compares (Some pq) = tt

forms_compare : (gs : Guards) (P : Cn × Cn → Type 0) (r : Result (Cn × Cn) Flw) → Holds P r → Compares (forms_flaw gs r)
forms_compare gs P (Err e) h = h
forms_compare gs P (Ok mn) h = touch_compares (first_touch gs mn.0 mn.1)

apart_compares : (gs : Guards) (a b : Cn) → Compares (not_apart gs a b)
apart_compares gs a b = forms_compare gs (λ mn. normal_forms comparison_units a b ≡ Ok mn) (normal_forms comparison_units a b) (forms_hold a b)

apart_from_compares : (gs : Guards) (n : Cn) (ns : List Cn) → Compares (not_apart_from gs n ns)
apart_from_compares gs n [] = tt
apart_from_compares gs n (m ∷ ms) = or_compares (not_apart gs n m) (not_apart_from gs n ms) (apart_compares gs n m) (apart_from_compares gs n ms)

pairwise_compares : (gs : Guards) (ns : List Cn) → Compares (not_pairwise_apart gs ns)
pairwise_compares gs [] = tt
pairwise_compares gs (n ∷ ns) = or_compares (not_apart_from gs n ns) (not_pairwise_apart gs ns) (apart_from_compares gs n ns) (pairwise_compares gs ns)

-- the rules
body_holds : (r : Result Kd Flw) → Holds (Is types) r → Holds (Is types) (type_kind r)
body_holds r h = then_holds (Is types) (Is types) r (expects types) h (λ k e. expects_holds types k e)

arrow_holds : (r s : Result Kd Flw) → Holds (Is types) r → Holds (Is types) s → Holds (Is types) (arrow_kind (both r s))
arrow_holds r s h g =
    then_holds (Are types types) (Is types) (both r s) _ (both_holds types types r s h g)
    (λ k e. then_holds (Is types) (Is types) (expects types k.0) _ (expects_holds types k.0 (first_of types types k e)) (λ _ _. expects_holds types k.1 (second_of types types k e)))

guard_holds : (a b : Cn) (k l : Kd) (r s : Result Kd Flw) → Holds (Is (row_of k)) r → Holds (Is (row_of l)) s → Holds (λ mn. normal_forms comparison_units a b ≡ Ok mn) (guard_sides a b (both r s))
guard_holds a b k l r s h g =
    then_holds (Are (row_of k) (row_of l)) (λ mn. normal_forms comparison_units a b ≡ Ok mn) (guard_rows (both r s)) _
    (then_holds (Are (row_of k) (row_of l)) (Are (row_of k) (row_of l)) (both r s) _ (both_holds (row_of k) (row_of l) r s h g)
    (λ m e. both_holds (row_of k) (row_of l) (expects_row m.0) (expects_row m.1) (row_holds k m.0 (first_of (row_of k) (row_of l) m e)) (row_holds l m.1 (second_of (row_of k) (row_of l) m e))))
    (λ _ _. forms_hold a b)

record_holds : (r : Result Kd Flw) → Holds (Is (row_of types)) r → Holds (Is types) (record_kind r)
record_holds r h =
    then_holds (Is (row_of types)) (Is types) r _ h
    (λ k e. unless_holds (Is types) (unlike (row_of types) k) types (none_compares (unlike (row_of types) k) (like_none (row_of types) k e)) refl)

applied_holds : (k l f a : Kd) → f ≡ to k l → a ≡ k → Holds (Is l) (applied_kind f a)
applied_holds k l f a e i =
    let P : Kd → Type 0 = λ z. Holds (Is l) (applied_kind z a) in
    subst P (sym e) (unless_holds (Is l) (unlike k a) l (none_compares (unlike k a) (like_none k a i)) refl)

app_holds : (k l : Kd) (r s : Result Kd Flw) → Holds (Is (to k l)) r → Holds (Is k) s → Holds (Is l) (app_kind (both r s))
app_holds k l r s h g =
    then_holds (Are (to k l) k) (Is l) (both r s) _ (both_holds (to k l) k r s h g)
    (λ m e. applied_holds k l m.0 m.1 (first_of (to k l) k m e) (second_of (to k l) k m e))

lambda_holds : (k l : Kd) (r : Result Kd Flw) → Holds (Is l) r → Holds (Is (to k l)) (lambda_kind k r)
lambda_holds k l r h = then_holds (Is l) (Is (to k l)) r _ h (λ m e. ap (to k) e)

cat_holds : (gs : Guards) (a b : Cn) (k : Kd) (r s : Result Kd Flw) → Holds (Is (row_of k)) r → Holds (Is (row_of k)) s → Holds (Is (row_of k)) (cat_kind gs a b (both r s))
cat_holds gs a b k r s h g =
    then_holds (Is (row_of k)) (Is (row_of k)) (same_rows (both r s)) _
    (then_holds (Are (row_of k) (row_of k)) (Is (row_of k)) (both r s) _ (both_holds (row_of k) (row_of k) r s h g)
    (λ m e. then_holds (Is (row_of k)) (Is (row_of k)) (expects_row m.0) _ (row_holds k m.0 (first_of (row_of k) (row_of k) m e))
    (λ l i. wanted_holds l m.1 i (second_of (row_of k) (row_of k) m e))))
    (λ l e. unless_holds (Is (row_of k)) (not_apart gs a b) l (apart_compares gs a b) e)
  where
    wanted_holds : (l m : Kd) → l ≡ row_of k → m ≡ row_of k → Holds (Is (row_of k)) (expects l m)
    wanted_holds l m i e = unless_holds (Is (row_of k)) (unlike l m) m (none_compares (unlike l m) (like_none l m (e ∙ sym i))) e

component_holds : (n : ℕ) (ks : Kds) (k l : Kd) → l ≡ tuple_of ks → slice_get (kind_list ks) n ≡ Some k → Holds (Is k) (component_kind n l)
component_holds n ks k l e is =
    let P : Kd → Type 0 = λ z. Holds (Is k) (component_kind n z) in
    subst P (sym e) (there_holds (Is k) _ (slice_get (kind_list ks) n) k is refl)

abbrev Fits : Kd → List (Kd × Kd) → Type 0
Fits k fs = fields_flaw k fs ≡ None

abbrev Lists : Kds → List Kd → Type 0
Lists ks ls = kinds_from ls ≡ ks

field_fits : (k : Kd) (f : Kd × Kd) (fs : List (Kd × Kd)) → f ≡ (names, k) → fields_flaw k fs ≡ None → fields_flaw k (f ∷ fs) ≡ None
field_fits k f fs e h =
    ap (λ o. option_or o (fields_flaw k fs)) (ap (λ o. option_or o (unlike k f.1)) (like_none names f.0 (first_of names k f e)) ∙ like_none k f.1 (second_of names k f e)) ∙ h

mutual
  pub told_of_kinded : (G : Scope) (c : Cn) (k : Kd) → Kinded G c k → Holds (λ l. l ≡ k) (kinding G c)
  told_of_kinded G (var i) k (of_var e) = there_holds (Is k) _ (slice_get G.binders i) k e refl
  told_of_kinded G (basic s) k (of_basic e) = there_holds (Is k) _ (basic_kind G.basics s) k e refl
  told_of_kinded G (arrow a b) _ (of_arrow h g) = arrow_holds (kinding G a) (kinding G b) (told_of_kinded G a types h) (told_of_kinded G b types g)
  told_of_kinded G (poly x l b) _ (of_poly h) = body_holds (outside_of l (kinding (bind l G) b)) (outside_holds (Is types) l (kinding (bind l G) b) (told_of_kinded (bind l G) b types h))
  told_of_kinded G (guarded a b c) _ (of_guarded {k = k} {l = l} h g x) =
      then_holds (λ mn. normal_forms comparison_units a b ≡ Ok mn) (Is types) (guard_sides a b (both (kinding G a) (kinding G b))) _
      (guard_holds a b k l (kinding G a) (kinding G b) (told_of_kinded G a (row_of k) h) (told_of_kinded G b (row_of l) g))
      (λ mn e.
      let (p, q) = forms_equal comparison_units a b mn e in
      body_holds (kinding (assume mn.0 mn.1 G) c) (told_of_kinded (assume mn.0 mn.1 G) c types (kinded_under (back p) (back q) x)))
  told_of_kinded G (record_of a) _ (of_record h) = record_holds (kinding G a) (told_of_kinded G a (row_of types) h)
  told_of_kinded G (app f a) l (of_app {k = k} h g) = app_holds k l (kinding G f) (kinding G a) (told_of_kinded G f (to k l) h) (told_of_kinded G a k g)
  told_of_kinded G (lambda k b) _ (of_lambda {l = l} h) = lambda_holds k l (outside_of k (kinding (bind k G) b)) (outside_holds (Is l) k (kinding (bind k G) b) (told_of_kinded (bind k G) b l h))
  told_of_kinded G unit_con _ of_unit = refl
  told_of_kinded G (name s) _ of_name = refl
  told_of_kinded G (row k ps) _ (of_row h m) =
      then_holds (Fits k) (Is (row_of k)) (kinding_fields G ps) _ (told_of_fields G ps k h)
      (λ fs e. unless_holds (Is (row_of k)) (row_flaw G.guards k ps fs) (row_of k) (or_compares (fields_flaw k fs) _ (none_compares (fields_flaw k fs) e) (pairwise_compares G.guards (names_of ps))) refl)
  told_of_kinded G (cat a b) _ (of_cat {k = k} h g m) = cat_holds G.guards a b k (kinding G a) (kinding G b) (told_of_kinded G a (row_of k) h) (told_of_kinded G b (row_of k) g)
  told_of_kinded G (map_of k l) _ of_map = refl
  told_of_kinded G (tuple cs) _ (of_tuple {ks = ks} h) = then_holds (Lists ks) (Is (tuple_of ks)) (kinding_all G cs) _ (told_of_all G cs ks h) (λ ls e. ap tuple_of e)
  told_of_kinded G (proj c n) k (of_proj {ks = ks} h e) = then_holds (Is (tuple_of ks)) (Is k) (kinding G c) (component_kind n) (told_of_kinded G c (tuple_of ks) h) (λ l i. component_holds n ks k l i e)

  told_of_all : (G : Scope) (cs : Cns) (ks : Kds) → KindedAll G cs ks → Holds (Lists ks) (kinding_all G cs)
  told_of_all G no_cons _ no_components = refl
  told_of_all G (con c cs) _ (a_component {k = k} {ks = ks} h g) =
      then_holds (Is k) (Lists (kind k ks)) (kinding G c) _ (told_of_kinded G c k h)
      (λ l e. then_holds (Lists ks) (Lists (kind k ks)) (kinding_all G cs) _ (told_of_all G cs ks g) (λ ls i. ap (λ z. kind z (kinds_from ls)) e ∙ ap (kind k) i))

  told_of_fields : (G : Scope) (ps : Prs) (k : Kd) → KindedPairs G ps k → Holds (Fits k) (kinding_fields G ps)
  told_of_fields G no_pairs k no_fields = refl
  told_of_fields G (pair n v ps) k (a_field h g x) =
      then_holds (Are names k) (Fits k) (both (kinding G n) (kinding G v)) _ (both_holds names k (kinding G n) (kinding G v) (told_of_kinded G n names h) (told_of_kinded G v k g))
      (λ f e. then_holds (Fits k) (Fits k) (kinding_fields G ps) _ (told_of_fields G ps k x) (λ fs i. field_fits k f fs e i))

-- the same by cases
pub matched : {X : Type 0} (P : X → Type 0) (r : Result X Flw) → Holds P r → MatchResult r P IsOfComparison
matched P (Ok x) h = h
matched P (Err e) h = h

deep_holds : (P : Kd → Type 0) (b : Bool) (r : Result Kd Flw) → Holds P r → Holds P (if b then Err too_large else r)
deep_holds P true r h = tt
deep_holds P false r h = h

judged_of_kinded : (G : Scope) (c : Cn) (k : Kd) → Kinded G c k → Holds (λ l. l ≡ k) (judged G c)
judged_of_kinded G c k h = deep_holds (λ l. l ≡ k) _ (kinding G c) (told_of_kinded G c k h)

-- what a refusal then tells
told_by : (at : Place) (fault : KindFault) (k : Kd) (t : Result Kd Flw) → Holds (λ l. l ≡ k) t → Refuses at fault t → TellsComparison fault
told_by at (Unbound p) k (Ok l) h (_, r) = absurd r
told_by at (Unbound p) k (Err (unbound_variable i)) h r = absurd h
told_by at (Unbound p) k (Err (unbound_basic s)) h r = absurd h
told_by at (Unbound p) k (Err (kinds_differ l m)) h r = absurd h
told_by at (Unbound p) k (Err (pieces_touch a b)) h (_, r) = absurd r
told_by at (Unbound p) k (Err too_large) h (_, r) = absurd r
told_by at (KindMismatch p wanted found) k t h r = let P : Result Kd Flw → Type 0 = λ z. Holds (λ l. l ≡ k) z in absurd (subst P r.1 h)
told_by at (NotDisjoint p pieces) k t h r = tt
told_by at (TooLarge p) k t h r = tt
told_by at Memory k t h r = tt

pub refusal_of_kinded : (G : Scope) (c : Cn) (k : Kd) (at : Place) (fault : KindFault) (t : Result Kd Flw) → t ≡ judged G c → Refuses at fault t → Kinded G c k → TellsComparison fault
refusal_of_kinded G c k at fault t e r h =
    let P : Result Kd Flw → Type 0 = λ z. Holds (λ l. l ≡ k) z in
    told_by at fault k t (subst P (sym e) (judged_of_kinded G c k h)) r
