-- A constructor has the kind that is found for it.
use Rattle.std.proofs.Common.{◌≡◌, ℕ, Bool, true, false, List, [], ◌∷◌, Option, Some, None, Result, Ok, Err, slice_get, if◌then◌else◌, refl, ap, sym, ◌∙◌, subst, All}
use Rattle.std.proofs.lemmas.List.Elements.{All-cons, All-nil}
use Rattle.con_terms.specs.Trees.{Kd, types, units, names, row_of, to, tuple_of, Kds, kind_list, Cn, var, basic, arrow, poly, guarded, record_of, app, lambda, unit_con, name, row, cat, map_of, tuple, proj, Cns, no_cons, con, Prs, no_pairs, pair, names_of}
use Rattle.con_terms.specs.Same.{kd_eq}
use Rattle.con_terms.specs.View.{kinds_from}
use Rattle.con_terms.specs.Equal.{Equal, step}
use Rattle.con_terms.specs.Apart.{Guards, Apart, apart, PairwiseApart}
use Rattle.con_terms.specs.Kinded.{Scope, basic_kind, bind, assume, Kinded, of_var, of_basic, of_arrow, of_poly, of_guarded, of_record, of_app, of_lambda, of_unit, of_name, of_row, of_cat, of_map, of_tuple, of_proj, KindedAll, no_components, a_component, KindedPairs, no_fields, a_field}
use Rattle.con_terms.proofs.SameKinds.{kd_eq_same}
use Rattle.disjoint_prover.specs.Separation.{first_touch}
use Rattle.disjoint_prover.proofs.Sound.{none_or, touch_sound}
use Rattle.row_normal.specs.NormalForm.{nf}
use Rattle.kind_rules.specs.Flaws.{Flw, kinds_differ, too_large}
use Rattle.kind_rules.specs.Compared.{comparison_units, with_second, with_first, normal_forms, touch_flaw, forms_flaw, not_apart, not_apart_from, not_pairwise_apart}
use Rattle.kind_rules.specs.Rules.{and_then, unless, or_flaw, both, outside_of, unlike, expects, expects_row, type_kind, guard_rows, guard_sides, applied_kind, same_rows, field_flaw, fields_flaw, row_flaw, component_kind}
use Rattle.kind_rules.specs.Kinding.{kinding, kinding_all, kinding_fields, judged}
use Rattle.row_normal.proofs.NormalEqual.{nf_equal}
use Rattle.kind_rules.proofs.Guarded.{kinded_under}

-- what is found where something follows from it
pub record Follows {X Y : Type 0} (r : Result X Flw) (f : X → Result Y Flw) (y : Y) : Type 0 where
  pub x : X
  pub first : r ≡ Ok x
  pub then' : f x ≡ Ok y

pub follows : {X Y : Type 0} (r : Result X Flw) (f : X → Result Y Flw) (y : Y) → and_then r f ≡ Ok y → Follows r f y
follows (Ok x) f y h = record { x = x; first = refl; then' = h }
follows (Err e) f y h = cc

outside_ok : {X : Type 0} (k : Kd) (r : Result X Flw) (x : X) → outside_of k r ≡ Ok x → r ≡ Ok x
outside_ok k (Ok y) x h = h
outside_ok k (Err e) x h = cc

unless_ok : {X : Type 0} (o : Option Flw) (x y : X) → unless o x ≡ Ok y → (o ≡ None) × (x ≡ y)
unless_ok None x y h = (refl, cc)
unless_ok (Some e) x y h = cc

or_flaw_ok : {X : Type 0} (e : Flw) (o : Option X) (x : X) → or_flaw e o ≡ Ok x → o ≡ Some x
or_flaw_ok e None x h = cc
or_flaw_ok e (Some y) x h = cc

tested : (b : Bool) (e : Flw) → (if b then None else Some e) ≡ None → b ≡ true
tested true e h = refl
tested false e h = cc

like : (k l : Kd) → unlike k l ≡ None → k ≡ l
like k l h = kd_eq_same k l (tested (kd_eq k l) (kinds_differ k l) h)

pub expected : (k l m : Kd) → expects k l ≡ Ok m → (k ≡ l) × (l ≡ m)
expected k l m h = let (p, q) = unless_ok (unlike k l) l m h in (like k l p, q)

both_found : (r s : Result Kd Flw) (k : Kd × Kd) → both r s ≡ Ok k → (r ≡ Ok k.0) × (s ≡ Ok k.1)
both_found r s k h =
    let f = follows r _ k h in
    let g = follows s _ k f.then' in
    let e : (f.x, g.x) ≡ k = cc in
    (f.first ∙ ap (λ (x : Kd × Kd). Ok x.0) e, g.first ∙ ap (λ (x : Kd × Kd). Ok x.1) e)

row_expected : (k l : Kd) → expects_row k ≡ Ok l → (m : Kd) × (k ≡ row_of m) × (l ≡ row_of m)
row_expected (row_of m) l h = (m, refl, cc)
row_expected types l h = cc
row_expected units l h = cc
row_expected names l h = cc
row_expected (to m n) l h = cc
row_expected (tuple_of ks) l h = cc

-- a kind along an equation
kinded_at : {G : Scope} {c : Cn} {k l : Kd} → Kinded G c k → k ≡ l → Kinded G c l
kinded_at {G} {c} h e = let P : Kd → Type 0 = λ z. Kinded G c z in subst P e h

-- comparisons
both_normal : (left : ℕ) (a b m : Cn) (mn : Cn × Cn) → Equal a m → with_second m (nf left b) ≡ Ok mn → Equal a mn.0 × Equal b mn.1
both_normal left a b m mn h g = by_second (nf left b) refl g
  where
    by_second : (o : Option (Cn × ℕ)) → nf left b ≡ o → with_second m o ≡ Ok mn → Equal a mn.0 × Equal b mn.1
    by_second None e i = cc
    by_second (Some n) e i =
        let is : (m, n.0) ≡ mn = cc in
        let P : Cn × Cn → Type 0 = λ z. Equal a z.0 × Equal b z.1 in
        subst P is (h, nf_equal left n.1 b n.0 e)

pub forms_equal : (left : ℕ) (a b : Cn) (mn : Cn × Cn) → normal_forms left a b ≡ Ok mn → Equal a mn.0 × Equal b mn.1
forms_equal left a b mn h = by_first (nf left a) refl h
  where
    by_first : (o : Option (Cn × ℕ)) → nf left a ≡ o → with_first o b ≡ Ok mn → Equal a mn.0 × Equal b mn.1
    by_first None e i = cc
    by_first (Some m) e i = both_normal m.1 a b m.0 mn (nf_equal left m.1 a m.0 e) i

apart_along : {gs : Guards} {a b m n : Cn} → Equal a m → Equal b n → Apart gs m n → Apart gs a b
apart_along h k (apart p q s) = apart (step h p) (step k q) s

touch_none : (o : Option (Cn × Cn)) → touch_flaw o ≡ None → o ≡ None
touch_none None h = refl
touch_none (Some pq) h = cc

pub apart_sound : (gs : Guards) (a b : Cn) → not_apart gs a b ≡ None → Apart gs a b
apart_sound gs a b h = by_forms (normal_forms comparison_units a b) refl h
  where
    by_forms : (r : Result (Cn × Cn) Flw) → normal_forms comparison_units a b ≡ r → forms_flaw gs r ≡ None → Apart gs a b
    by_forms (Err e) i g = cc
    by_forms (Ok mn) i g =
        let (p, q) = forms_equal comparison_units a b mn i in
        apart_along p q (touch_sound gs mn.0 mn.1 (touch_none (first_touch gs mn.0 mn.1) g))

apart_from_sound : (gs : Guards) (n : Cn) (ns : List Cn) → not_apart_from gs n ns ≡ None → All (Apart gs n) ns
apart_from_sound gs n [] h = All-nil (Apart gs n)
apart_from_sound gs n (m ∷ ms) h =
    let (p, q) = none_or (not_apart gs n m) (not_apart_from gs n ms) h in
    All-cons (Apart gs n) m ms (apart_sound gs n m p) (apart_from_sound gs n ms q)

pairwise_sound : (gs : Guards) (ns : List Cn) → not_pairwise_apart gs ns ≡ None → PairwiseApart gs ns
pairwise_sound gs [] h = tt
pairwise_sound gs (n ∷ ns) h =
    let (p, q) = none_or (not_apart_from gs n ns) (not_pairwise_apart gs ns) h in
    (apart_from_sound gs n ns p, pairwise_sound gs ns q)

-- a component of what is a tuple
component_found : (n : ℕ) (k l : Kd) → component_kind n k ≡ Ok l → (ks : Kds) × (k ≡ tuple_of ks) × (slice_get (kind_list ks) n ≡ Some l)
component_found n (tuple_of ks) l h = (ks, refl, or_flaw_ok _ _ l h)
component_found n types l h = cc
component_found n units l h = cc
component_found n names l h = cc
component_found n (row_of k) l h = cc
component_found n (to k m) l h = cc

applied_found : (k l m : Kd) → applied_kind k l ≡ Ok m → k ≡ to l m
applied_found (to x y) l m h = let (p, q) = unless_ok (unlike x l) y m h in ap (λ z. to z y) (like x l p) ∙ ap (to l) q
applied_found types l m h = cc
applied_found units l m h = cc
applied_found names l m h = cc
applied_found (row_of k) l m h = cc
applied_found (tuple_of ks) l m h = cc

-- the rules
body_sound : {H : Scope} {c : Cn} (r : Result Kd Flw) (k : Kd) → ((l : Kd) → r ≡ Ok l → Kinded H c l) → type_kind r ≡ Ok k → Kinded H c types × (types ≡ k)
body_sound r k found h =
    let f = follows r (expects types) k h in
    let (p, q) = expected types f.x k f.then' in
    (kinded_at (found f.x f.first) (sym p), p ∙ q)

mutual
  pub kinding_sound : (G : Scope) (c : Cn) (k : Kd) → kinding G c ≡ Ok k → Kinded G c k
  kinding_sound G (var i) k h = of_var (or_flaw_ok _ (slice_get G.binders i) k h)
  kinding_sound G (basic s) k h = of_basic (or_flaw_ok _ (basic_kind G.basics s) k h)
  kinding_sound G (arrow a b) k h =
      let f = follows (both (kinding G a) (kinding G b)) _ k h in
      let (p, q) = both_found (kinding G a) (kinding G b) f.x f.first in
      let g = follows (expects types f.x.0) _ k f.then' in
      let (i, _) = expected types f.x.0 g.x g.first in
      let (j, l) = expected types f.x.1 k g.then' in
      kinded_at (of_arrow (kinded_at (kinding_sound G a f.x.0 p) (sym i)) (kinded_at (kinding_sound G b f.x.1 q) (sym j))) (j ∙ l)
  kinding_sound G (poly x l b) k h =
      let (p, q) = body_sound (outside_of l (kinding (bind l G) b)) k (λ m e. kinding_sound (bind l G) b m (outside_ok l (kinding (bind l G) b) m e)) h in
      kinded_at (of_poly p) q
  kinding_sound G (guarded a b c) k h =
      let f = follows (guard_sides a b (both (kinding G a) (kinding G b))) _ k h in
      let g = follows (guard_rows (both (kinding G a) (kinding G b))) _ f.x f.first in
      let i = follows (both (kinding G a) (kinding G b)) _ g.x g.first in
      let (p, q) = both_found (kinding G a) (kinding G b) i.x i.first in
      let (l, r) = both_found (expects_row i.x.0) (expects_row i.x.1) g.x i.then' in
      let (m, s, _) = row_expected i.x.0 g.x.0 l in
      let (n, t, _) = row_expected i.x.1 g.x.1 r in
      let (u, v) = forms_equal comparison_units a b f.x g.then' in
      let (x, y) = body_sound (kinding (assume f.x.0 f.x.1 G) c) k (λ z. kinding_sound (assume f.x.0 f.x.1 G) c z) f.then' in
      kinded_at (of_guarded {k = m} {l = n} (kinded_at (kinding_sound G a i.x.0 p) s) (kinded_at (kinding_sound G b i.x.1 q) t) (kinded_under u v x)) y
  kinding_sound G (record_of a) k h =
      let f = follows (kinding G a) _ k h in
      let (p, q) = unless_ok (unlike (row_of types) f.x) types k f.then' in
      kinded_at (of_record (kinded_at (kinding_sound G a f.x f.first) (sym (like (row_of types) f.x p)))) q
  kinding_sound G (app x a) k h =
      let f = follows (both (kinding G x) (kinding G a)) _ k h in
      let (p, q) = both_found (kinding G x) (kinding G a) f.x f.first in
      of_app (kinded_at (kinding_sound G x f.x.0 p) (applied_found f.x.0 f.x.1 k f.then')) (kinding_sound G a f.x.1 q)
  kinding_sound G (lambda l b) k h =
      let f = follows (outside_of l (kinding (bind l G) b)) _ k h in
      kinded_at (of_lambda (kinding_sound (bind l G) b f.x (outside_ok l (kinding (bind l G) b) f.x f.first))) (let e : to l f.x ≡ k = cc in e)
  kinding_sound G unit_con k h = kinded_at of_unit (let e : units ≡ k = cc in e)
  kinding_sound G (name s) k h = kinded_at of_name (let e : names ≡ k = cc in e)
  kinding_sound G (row l ps) k h =
      let f = follows (kinding_fields G ps) _ k h in
      let (p, q) = unless_ok (row_flaw G.guards l ps f.x) (row_of l) k f.then' in
      let (r, s) = none_or (fields_flaw l f.x) (not_pairwise_apart G.guards (names_of ps)) p in
      kinded_at (of_row (fields_sound G ps l f.x f.first r) (pairwise_sound G.guards (names_of ps) s)) q
  kinding_sound G (cat a b) k h =
      let f = follows (same_rows (both (kinding G a) (kinding G b))) _ k h in
      let (u, v) = unless_ok (not_apart G.guards a b) f.x k f.then' in
      let g = follows (both (kinding G a) (kinding G b)) _ f.x f.first in
      let (p, q) = both_found (kinding G a) (kinding G b) g.x g.first in
      let i = follows (expects_row g.x.0) _ f.x g.then' in
      let (m, s, t) = row_expected g.x.0 i.x i.first in
      let (y, z) = expected i.x g.x.1 f.x i.then' in
      kinded_at (of_cat (kinded_at (kinding_sound G a g.x.0 p) s) (kinded_at (kinding_sound G b g.x.1 q) (sym y ∙ t)) (apart_sound G.guards a b u)) (sym t ∙ y ∙ z ∙ v)
  kinding_sound G (map_of l m) k h = kinded_at of_map (let e : to (to l m) (to (row_of l) (row_of m)) ≡ k = cc in e)
  kinding_sound G (tuple cs) k h =
      let f = follows (kinding_all G cs) _ k h in
      kinded_at (of_tuple (all_sound G cs f.x f.first)) (let e : tuple_of (kinds_from f.x) ≡ k = cc in e)
  kinding_sound G (proj c n) k h =
      let f = follows (kinding G c) _ k h in
      let (ks, p, q) = component_found n f.x k f.then' in
      of_proj (kinded_at (kinding_sound G c f.x f.first) p) q

  all_sound : (G : Scope) (cs : Cns) (ks : List Kd) → kinding_all G cs ≡ Ok ks → KindedAll G cs (kinds_from ks)
  all_sound G no_cons ks h =
      let e : [] ≡ ks = cc in
      let P : List Kd → Type 0 = λ z. KindedAll G no_cons (kinds_from z) in subst P e no_components
  all_sound G (con c cs) ks h =
      let f = follows (kinding G c) _ ks h in
      let g = follows (kinding_all G cs) _ ks f.then' in
      let e : (f.x ∷ g.x) ≡ ks = cc in
      let P : List Kd → Type 0 = λ z. KindedAll G (con c cs) (kinds_from z) in
      subst P e (a_component (kinding_sound G c f.x f.first) (all_sound G cs g.x g.first))

  fields_sound : (G : Scope) (ps : Prs) (k : Kd) (fs : List (Kd × Kd)) → kinding_fields G ps ≡ Ok fs → fields_flaw k fs ≡ None → KindedPairs G ps k
  fields_sound G no_pairs k fs h r = no_fields
  fields_sound G (pair n v ps) k fs h r =
      let f = follows (both (kinding G n) (kinding G v)) _ fs h in
      let g = follows (kinding_fields G ps) _ fs f.then' in
      let (p, q) = both_found (kinding G n) (kinding G v) f.x f.first in
      let e : (f.x ∷ g.x) ≡ fs = cc in
      let (s, t) = none_or (field_flaw k f.x) (fields_flaw k g.x) (ap (fields_flaw k) e ∙ r) in
      let (y, z) = none_or (unlike names f.x.0) (unlike k f.x.1) s in
      a_field (kinded_at (kinding_sound G n f.x.0 p) (sym (like names f.x.0 y))) (kinded_at (kinding_sound G v f.x.1 q) (sym (like k f.x.1 z))) (fields_sound G ps k g.x g.first t)

deep : (b : Bool) (r : Result Kd Flw) (k : Kd) → (if b then Err too_large else r) ≡ Ok k → r ≡ Ok k
deep true r k h = cc
deep false r k h = h

pub judged_sound : (G : Scope) (c : Cn) (k : Kd) → judged G c ≡ Ok k → Kinded G c k
judged_sound G c k h = kinding_sound G c k (deep _ (kinding G c) k h)
