-- What a flaw of a comparison rests on.
use Rattle.std.proofs.Common.{◌≡◌, ℕ, ◌<◌, ◌⊎◌, inl, inr, Bool, true, false, List, [], ◌∷◌, Option, Some, None, Result, Ok, Err, MatchResult, nat_lt, slice_get, if◌then◌else◌, refl, ap, sym, subst, ◌∙◌, arith}
use Rattle.std.specs.Option.{option_or}
use Rattle.std.specs.List.{Contains}
use Rattle.con_terms.specs.Trees.{Kd, types, units, names, row_of, to, tuple_of, kind_list, Cn, var, basic, arrow, poly, guarded, record_of, app, lambda, unit_con, name, row, cat, map_of, tuple, proj, Cns, no_cons, con, Prs, no_pairs, pair, names_of}
use Rattle.con_terms.specs.Same.{kd_eq}
use Rattle.con_terms.specs.Size.{depth}
use Rattle.con_terms.specs.Apart.{Guards}
use Rattle.con_terms.specs.Kinded.{Scope, basic_kind, bind, assume}
use Rattle.con_terms.specs.View.{con_tree}
use Rattle.con_terms.specs.declared.place.Place.{Place}
use Rattle.disjoint_prover.specs.Separation.{first_touch}
use Rattle.disjoint_prover.proofs.Touching.{touch_told}
use Rattle.disjoint_prover.proofs.Sound.{contains_head, contains_tail}
use Rattle.row_normal.specs.NormalForm.{limit, nf}
use Rattle.kind_rules.specs.Causes.{Stands, itself, left_of_arrow, right_of_arrow, in_poly, left_of_guard, right_of_guard, under_guard, in_record, in_function, in_argument, in_lambda, in_row, left_of_cat, right_of_cat, in_tuple, in_proj, StandsInComponent, in_first, in_later, StandsInField, in_name, in_value, in_later_field, Before, first, later, Separates, sides, names as of_names, Normalises, to_separate, to_assume, IsRefused, TouchAmong, Parts, LargeAmong, CausedBy, Caused, HasCause}
use Rattle.kind_rules.specs.Compared.{comparison_units, with_second, with_first, normal_forms, touch_flaw, forms_flaw, not_apart, not_apart_from, not_pairwise_apart}
use Rattle.kind_rules.specs.Faults.{IsOfComparison, Refuses}
use Rattle.kind_rules.specs.Flaws.{Flw, unbound_variable, unbound_basic, kinds_differ, pieces_touch, too_large, closed_by}
use Rattle.kind_rules.specs.Kinding.{kinding, kinding_all, kinding_fields, judged}
use Rattle.kind_rules.specs.declared.fault.KindFault.{KindFault}
use Rattle.kind_rules.specs.declared.fault.KindFault.TheVariants.{Unbound, KindMismatch, NotDisjoint, TooLarge, Memory}
use Rattle.kind_rules.proofs.Sound.{follows}
use Rattle.kind_rules.proofs.Told.{Holds}
use borrow.Author.Tests.{ltb-true}
use Rattle.kind_rules.specs.Rules.{and_then, unless, or_flaw, both, outside_of, unlike, expects, expects_row, type_kind, guard_rows, guard_sides, applied_kind, same_rows, field_flaw, fields_flaw, row_flaw, component_kind}

-- a flaw, where there is one, has this cause
abbrev pub Errs : {X : Type 0} → (Flw → Type 0) → Result X Flw → Type 0
Errs C (Ok x) = Unit {0}
Errs C (Err e) = C e

abbrev FlawHas : (Flw → Type 0) → Option Flw → Type 0
FlawHas C None = Unit {0}
FlawHas C (Some e) = C e

-- what asks for nothing: a mismatch of kinds
abbrev Plain : (Flw → Type 0) → Type 0
Plain C = (k l : Kd) → C (kinds_differ k l)

then_errs : {X Y : Type 0} (C : Flw → Type 0) (r : Result X Flw) (f : X → Result Y Flw) → Errs C r → ((x : X) → r ≡ Ok x → Errs C (f x)) → Errs C (and_then r f)
then_errs C (Ok x) f h g = g x refl
then_errs C (Err e) f h g = h

weaker : {X : Type 0} (C D : Flw → Type 0) (r : Result X Flw) → ((e : Flw) → C e → D e) → Errs C r → Errs D r
weaker C D (Ok x) w h = tt
weaker C D (Err e) w h = w e h

unless_errs : {X : Type 0} (C : Flw → Type 0) (o : Option Flw) (x : X) → FlawHas C o → Errs C (unless o x)
unless_errs C None x h = tt
unless_errs C (Some e) x h = h

or_has : (C : Flw → Type 0) (o p : Option Flw) → FlawHas C o → FlawHas C p → FlawHas C (option_or o p)
or_has C None p h g = g
or_has C (Some e) p h g = h

unlike_has : (C : Flw → Type 0) → Plain C → (k l : Kd) → FlawHas C (unlike k l)
unlike_has C plain k l = by_test (kd_eq k l)
  where
    by_test : (b : Bool) → FlawHas C (if b then None else Some (kinds_differ k l))
    by_test true = tt
    by_test false = plain k l

expects_errs : (C : Flw → Type 0) → Plain C → (k l : Kd) → Errs C (expects k l)
expects_errs C plain k l = unless_errs C (unlike k l) l (unlike_has C plain k l)

row_errs : (C : Flw → Type 0) → Plain C → (k : Kd) → Errs C (expects_row k)
row_errs C plain (row_of k) = tt
row_errs C plain types = plain _ _
row_errs C plain units = plain _ _
row_errs C plain names = plain _ _
row_errs C plain (to k l) = plain _ _
row_errs C plain (tuple_of ks) = plain _ _

both_errs : (C : Flw → Type 0) (r s : Result Kd Flw) → Errs C r → Errs C s → Errs C (both r s)
both_errs C r s h g = then_errs C r _ h (λ k _. then_errs C s _ g (λ l _. tt))

applied_errs : (C : Flw → Type 0) → Plain C → (k l : Kd) → Errs C (applied_kind k l)
applied_errs C plain (to k m) l = unless_errs C (unlike k l) m (unlike_has C plain k l)
applied_errs C plain types l = plain _ _
applied_errs C plain units l = plain _ _
applied_errs C plain names l = plain _ _
applied_errs C plain (row_of k) l = plain _ _
applied_errs C plain (tuple_of ks) l = plain _ _

or_flaw_errs : {X : Type 0} (C : Flw → Type 0) (e : Flw) (o : Option X) → C e → Errs C (or_flaw e o)
or_flaw_errs C e None h = h
or_flaw_errs C e (Some k) h = tt

component_errs : (C : Flw → Type 0) → Plain C → (n : ℕ) (k : Kd) → Errs C (component_kind n k)
component_errs C plain n k = or_flaw_errs C _ _ (plain _ _)

fields_has : (C : Flw → Type 0) → Plain C → (k : Kd) (fs : List (Kd × Kd)) → FlawHas C (fields_flaw k fs)
fields_has C plain k [] = tt
fields_has C plain k (f ∷ fs) = or_has C (field_flaw k f) _ (or_has C (unlike names f.0) _ (unlike_has C plain names f.0) (unlike_has C plain k f.1)) (fields_has C plain k fs)

body_errs : (C : Flw → Type 0) → Plain C → (r : Result Kd Flw) → Errs C r → Errs C (type_kind r)
body_errs C plain r h = then_errs C r _ h (λ k _. expects_errs C plain types k)

-- the normal forms of two sides, where they are refused
second_refused : (budget : ℕ) (a b : Cn) (m : Cn × ℕ) (e : Flw) → nf budget a ≡ Some m → with_second m.0 (nf m.1 b) ≡ Err e → (e ≡ too_large) × IsRefused budget a b
second_refused budget a b m e is h = by_second (nf m.1 b) refl h
  where
    by_second : (o : Option (Cn × ℕ)) → nf m.1 b ≡ o → with_second m.0 o ≡ Err e → (e ≡ too_large) × IsRefused budget a b
    by_second None i g = (cc, inr (m.0, m.1, is, i))
    by_second (Some n) i g = cc

pub refused : (budget : ℕ) (a b : Cn) (e : Flw) → normal_forms budget a b ≡ Err e → (e ≡ too_large) × IsRefused budget a b
refused budget a b e h = by_first (nf budget a) refl h
  where
    by_first : (o : Option (Cn × ℕ)) → nf budget a ≡ o → with_first o b ≡ Err e → (e ≡ too_large) × IsRefused budget a b
    by_first None i g = (cc, inl i)
    by_first (Some m) i g = second_refused budget a b m e i g

-- along an equation
flaw_at : (C : Flw → Type 0) (e d : Flw) → e ≡ d → C d → C e
flaw_at C e d i h = subst C (sym i) h

forms_errs : (G : Scope) (c a b : Cn) → Normalises c a b → Errs (Caused G c) (normal_forms comparison_units a b)
forms_errs G c a b asks = by_forms (normal_forms comparison_units a b) refl
  where
    by_forms : (r : Result (Cn × Cn) Flw) → normal_forms comparison_units a b ≡ r → Errs (Caused G c) r
    by_forms (Ok mn) i = tt
    by_forms (Err e) i =
        let (large, why) = refused comparison_units a b e i in
        flaw_at (Caused G c) e too_large large (record { binders = []; scope = G; whole = c; left = a; right = b; is_part = itself; asks = asks; refused = why })

touch_has : (G : Scope) (c a b : Cn) (mn : Cn × Cn) → Separates c a b → normal_forms comparison_units a b ≡ Ok mn → (o : Option (Cn × Cn)) → first_touch G.guards mn.0 mn.1 ≡ o → FlawHas (Caused G c) (touch_flaw o)
touch_has G c a b mn asks i None e = tt
touch_has G c a b mn asks i (Some pq) e =
    record {
      binders = [];
      scope = G;
      whole = c;
      left = a;
      right = b;
      forms = mn;
      left_piece = pq.0;
      right_piece = pq.1;
      is_part = itself;
      asks = asks;
      normal = i;
      touch = touch_told G.guards mn.0 mn.1 pq.0 pq.1 e;
      left_told = refl;
      right_told = refl;
    }

apart_has : (G : Scope) (c a b : Cn) → Separates c a b → FlawHas (Caused G c) (not_apart G.guards a b)
apart_has G c a b asks = by_forms (normal_forms comparison_units a b) refl (forms_errs G c a b (to_separate asks))
  where
    by_forms : (r : Result (Cn × Cn) Flw) → normal_forms comparison_units a b ≡ r → Errs (Caused G c) r → FlawHas (Caused G c) (forms_flaw G.guards r)
    by_forms (Ok mn) i h = touch_has G c a b mn asks i (first_touch G.guards mn.0 mn.1) refl
    by_forms (Err e) i h = h

apart_from_has : (G : Scope) (c n : Cn) (ns : List Cn) → ((m : Cn) → Contains ns m → Separates c n m) → FlawHas (Caused G c) (not_apart_from G.guards n ns)
apart_from_has G c n [] asks = tt
apart_from_has G c n (m ∷ ms) asks =
    or_has (Caused G c) (not_apart G.guards n m) _ (apart_has G c n m (asks m (contains_head m ms))) (apart_from_has G c n ms (λ x h. asks x (contains_tail x m ms h)))

pairwise_has : (G : Scope) (c : Cn) (ns : List Cn) → ((n m : Cn) → Before ns n m → Separates c n m) → FlawHas (Caused G c) (not_pairwise_apart G.guards ns)
pairwise_has G c [] asks = tt
pairwise_has G c (n ∷ ns) asks =
    or_has (Caused G c) (not_apart_from G.guards n ns) _ (apart_from_has G c n ns (λ m h. asks n m (first h))) (pairwise_has G c ns (λ x m h. asks x m (later h)))

-- among more parts
pub among_more : (P Q : Parts) → ((ks : List Kd) (H : Scope) (d : Cn) → P ks H d → Q ks H d) → (e : Flw) → CausedBy P e → CausedBy Q e
among_more P Q w (pieces_touch p q) h =
    record {
      binders = h.binders;
      scope = h.scope;
      whole = h.whole;
      left = h.left;
      right = h.right;
      forms = h.forms;
      left_piece = h.left_piece;
      right_piece = h.right_piece;
      is_part = w h.binders h.scope h.whole h.is_part;
      asks = h.asks;
      normal = h.normal;
      touch = h.touch;
      left_told = h.left_told;
      right_told = h.right_told;
    }
among_more P Q w too_large h = record { binders = h.binders; scope = h.scope; whole = h.whole; left = h.left; right = h.right; is_part = w h.binders h.scope h.whole h.is_part; asks = h.asks; refused = h.refused }
among_more P Q w (unbound_variable i) h = tt
among_more P Q w (unbound_basic s) h = tt
among_more P Q w (kinds_differ k l) h = tt

-- among the parts of a whole that stand under one binder more than in its body: what is told is closed by that binder
among_closed : (P Q : Parts) (k : Kd) → ((ks : List Kd) (H : Scope) (d : Cn) → P ks H d → Q (k ∷ ks) H d) → (e : Flw) → CausedBy P e → CausedBy Q (closed_by k e)
among_closed P Q k w (pieces_touch p q) h =
    record {
      binders = k ∷ h.binders;
      scope = h.scope;
      whole = h.whole;
      left = h.left;
      right = h.right;
      forms = h.forms;
      left_piece = h.left_piece;
      right_piece = h.right_piece;
      is_part = w h.binders h.scope h.whole h.is_part;
      asks = h.asks;
      normal = h.normal;
      touch = h.touch;
      left_told = ap (lambda k) h.left_told;
      right_told = ap (lambda k) h.right_told;
    }
among_closed P Q k w too_large h = record { binders = k ∷ h.binders; scope = h.scope; whole = h.whole; left = h.left; right = h.right; is_part = w h.binders h.scope h.whole h.is_part; asks = h.asks; refused = h.refused }
among_closed P Q k w (unbound_variable i) h = tt
among_closed P Q k w (unbound_basic s) h = tt
among_closed P Q k w (kinds_differ l m) h = tt

-- a part's
of_part : {X : Type 0} (G H : Scope) (a c : Cn) (r : Result X Flw) → ((ks : List Kd) (I : Scope) (d : Cn) → Stands H a ks I d → Stands G c ks I d) → Errs (Caused H a) r → Errs (Caused G c) r
of_part G H a c r w h = weaker (Caused H a) (Caused G c) r (among_more (Stands H a) (Stands G c) w) h

-- a binder's body's
outside_errs : {X : Type 0} (C D : Flw → Type 0) (k : Kd) (r : Result X Flw) → ((e : Flw) → C e → D (closed_by k e)) → Errs C r → Errs D (outside_of k r)
outside_errs C D k (Ok x) w h = tt
outside_errs C D k (Err e) w h = w e h

of_body : {X : Type 0} (G : Scope) (k : Kd) (b c : Cn) (r : Result X Flw) → ((ks : List Kd) (I : Scope) (d : Cn) → Stands (bind k G) b ks I d → Stands G c (k ∷ ks) I d) → Errs (Caused (bind k G) b) r → Errs (Caused G c) (outside_of k r)
of_body G k b c r w h = outside_errs (Caused (bind k G) b) (Caused G c) k r (among_closed (Stands (bind k G) b) (Stands G c) k w) h

two_parts : (G : Scope) (a b c : Cn) → ((ks : List Kd) (I : Scope) (d : Cn) → Stands G a ks I d → Stands G c ks I d) → ((ks : List Kd) (I : Scope) (d : Cn) → Stands G b ks I d → Stands G c ks I d) → Errs (Caused G a) (kinding G a) → Errs (Caused G b) (kinding G b) → Errs (Caused G c) (both (kinding G a) (kinding G b))
two_parts G a b c v w h g = both_errs (Caused G c) (kinding G a) (kinding G b) (of_part G G a c (kinding G a) v h) (of_part G G b c (kinding G b) w g)

sides_of : (a b : Cn) (r : Result (Kd × Kd) Flw) (mn : Cn × Cn) → guard_sides a b r ≡ Ok mn → normal_forms comparison_units a b ≡ Ok mn
sides_of a b r mn e = (follows (guard_rows r) _ mn e).then'

plain : (G : Scope) (c : Cn) → Plain (Caused G c)
plain G c k l = tt

mutual
  pub kinding_errs : (G : Scope) (c : Cn) → Errs (Caused G c) (kinding G c)
  kinding_errs G (var i) = or_flaw_errs (Caused G (var i)) (unbound_variable i) (slice_get G.binders i) tt
  kinding_errs G (basic s) = or_flaw_errs (Caused G (basic s)) (unbound_basic s) (basic_kind G.basics s) tt
  kinding_errs G (arrow a b) =
      then_errs (Caused G (arrow a b)) (both (kinding G a) (kinding G b)) _ (two_parts G a b (arrow a b) (λ _ _ _. left_of_arrow) (λ _ _ _. right_of_arrow) (kinding_errs G a) (kinding_errs G b))
      (λ k _. then_errs (Caused G (arrow a b)) (expects types k.0) _ (expects_errs (Caused G (arrow a b)) (plain G (arrow a b)) types k.0) (λ _ _. expects_errs (Caused G (arrow a b)) (plain G (arrow a b)) types k.1))
  kinding_errs G (poly x k b) = body_errs (Caused G (poly x k b)) (plain G (poly x k b)) (outside_of k (kinding (bind k G) b)) (of_body G k b (poly x k b) (kinding (bind k G) b) (λ _ _ _. in_poly) (kinding_errs (bind k G) b))
  kinding_errs G (guarded a b c) =
      let C : Flw → Type 0 = Caused G (guarded a b c) in
      then_errs C (guard_sides a b (both (kinding G a) (kinding G b))) _
      (then_errs C (guard_rows (both (kinding G a) (kinding G b))) _
      (then_errs C (both (kinding G a) (kinding G b)) _ (two_parts G a b (guarded a b c) (λ _ _ _. left_of_guard) (λ _ _ _. right_of_guard) (kinding_errs G a) (kinding_errs G b))
      (λ k _. both_errs C (expects_row k.0) (expects_row k.1) (row_errs C (plain G (guarded a b c)) k.0) (row_errs C (plain G (guarded a b c)) k.1)))
      (λ _ _. forms_errs G (guarded a b c) a b to_assume))
      (λ mn e. body_errs C (plain G (guarded a b c)) (kinding (assume mn.0 mn.1 G) c) (of_part G (assume mn.0 mn.1 G) c (guarded a b c) (kinding (assume mn.0 mn.1 G) c) (λ _ _ _. under_guard (sides_of a b (both (kinding G a) (kinding G b)) mn e)) (kinding_errs (assume mn.0 mn.1 G) c)))
  kinding_errs G (record_of a) =
      then_errs (Caused G (record_of a)) (kinding G a) _ (of_part G G a (record_of a) (kinding G a) (λ _ _ _. in_record) (kinding_errs G a))
      (λ k _. unless_errs (Caused G (record_of a)) (unlike (row_of types) k) types (unlike_has (Caused G (record_of a)) (plain G (record_of a)) (row_of types) k))
  kinding_errs G (app f a) =
      then_errs (Caused G (app f a)) (both (kinding G f) (kinding G a)) _ (two_parts G f a (app f a) (λ _ _ _. in_function) (λ _ _ _. in_argument) (kinding_errs G f) (kinding_errs G a))
      (λ k _. applied_errs (Caused G (app f a)) (plain G (app f a)) k.0 k.1)
  kinding_errs G (lambda k b) = then_errs (Caused G (lambda k b)) (outside_of k (kinding (bind k G) b)) _ (of_body G k b (lambda k b) (kinding (bind k G) b) (λ _ _ _. in_lambda) (kinding_errs (bind k G) b)) (λ l _. tt)
  kinding_errs G unit_con = tt
  kinding_errs G (name s) = tt
  kinding_errs G (row k ps) =
      let C : Flw → Type 0 = Caused G (row k ps) in
      then_errs C (kinding_fields G ps) _
      (weaker (CausedBy (StandsInField G ps)) C (kinding_fields G ps) (among_more (StandsInField G ps) (Stands G (row k ps)) (λ _ _ _. in_row)) (fields_errs G ps))
      (λ fs _. unless_errs C (row_flaw G.guards k ps fs) (row_of k) (or_has C (fields_flaw k fs) _ (fields_has C (plain G (row k ps)) k fs) (pairwise_has G (row k ps) (names_of ps) (λ n m h. of_names h))))
  kinding_errs G (cat a b) =
      let C : Flw → Type 0 = Caused G (cat a b) in
      then_errs C (same_rows (both (kinding G a) (kinding G b))) _
      (then_errs C (both (kinding G a) (kinding G b)) _ (two_parts G a b (cat a b) (λ _ _ _. left_of_cat) (λ _ _ _. right_of_cat) (kinding_errs G a) (kinding_errs G b))
      (λ k _. then_errs C (expects_row k.0) _ (row_errs C (plain G (cat a b)) k.0) (λ l _. expects_errs C (plain G (cat a b)) l k.1)))
      (λ k _. unless_errs C (not_apart G.guards a b) k (apart_has G (cat a b) a b sides))
  kinding_errs G (map_of k l) = tt
  kinding_errs G (tuple cs) =
      then_errs (Caused G (tuple cs)) (kinding_all G cs) _
      (weaker (CausedBy (StandsInComponent G cs)) (Caused G (tuple cs)) (kinding_all G cs) (among_more (StandsInComponent G cs) (Stands G (tuple cs)) (λ _ _ _. in_tuple)) (all_errs G cs))
      (λ ks _. tt)
  kinding_errs G (proj c n) = then_errs (Caused G (proj c n)) (kinding G c) _ (of_part G G c (proj c n) (kinding G c) (λ _ _ _. in_proj) (kinding_errs G c)) (λ k _. component_errs (Caused G (proj c n)) (plain G (proj c n)) n k)

  all_errs : (G : Scope) (cs : Cns) → Errs (CausedBy (StandsInComponent G cs)) (kinding_all G cs)
  all_errs G no_cons = tt
  all_errs G (con c cs) =
      let C : Flw → Type 0 = CausedBy (StandsInComponent G (con c cs)) in
      then_errs C (kinding G c) _ (weaker (Caused G c) C (kinding G c) (among_more (Stands G c) (StandsInComponent G (con c cs)) (λ _ _ _. in_first)) (kinding_errs G c))
      (λ k _. then_errs C (kinding_all G cs) _ (weaker (CausedBy (StandsInComponent G cs)) C (kinding_all G cs) (among_more (StandsInComponent G cs) (StandsInComponent G (con c cs)) (λ _ _ _. in_later)) (all_errs G cs)) (λ ks _. tt))

  fields_errs : (G : Scope) (ps : Prs) → Errs (CausedBy (StandsInField G ps)) (kinding_fields G ps)
  fields_errs G no_pairs = tt
  fields_errs G (pair n v ps) =
      let C : Flw → Type 0 = CausedBy (StandsInField G (pair n v ps)) in
      then_errs C (both (kinding G n) (kinding G v)) _
      (both_errs C (kinding G n) (kinding G v)
      (weaker (Caused G n) C (kinding G n) (among_more (Stands G n) (StandsInField G (pair n v ps)) (λ _ _ _. in_name)) (kinding_errs G n))
      (weaker (Caused G v) C (kinding G v) (among_more (Stands G v) (StandsInField G (pair n v ps)) (λ _ _ _. in_value)) (kinding_errs G v)))
      (λ k _. then_errs C (kinding_fields G ps) _ (weaker (CausedBy (StandsInField G ps)) C (kinding_fields G ps) (among_more (StandsInField G ps) (StandsInField G (pair n v ps)) (λ _ _ _. in_later_field)) (fields_errs G ps)) (λ ks _. tt))

-- what is told where a kind should be found
pub and_cause : (G : Scope) (c : Cn) (P : Kd → Type 0) (r : Result Kd Flw) → Holds P r → Errs (Caused G c) r → MatchResult r P (λ e. IsOfComparison e × Caused G c e)
and_cause G c P (Ok k) h g = h
and_cause G c P (Err e) h g = (h, g)

-- what a refusal then rests on
cause_of_flaw : (G : Scope) (c : Cn) (at : Place) (fault : KindFault) (e : Flw) → Caused G c e → Refuses at fault (Err e) → HasCause G c fault
cause_of_flaw G c at (NotDisjoint p pieces) e h r =
    let is : e ≡ pieces_touch (con_tree pieces.left) (con_tree pieces.right) = let i = r.1 in cc in
    subst (λ z. Caused G c z) is h
cause_of_flaw G c at (TooLarge p) e h r =
    let is : e ≡ too_large = let i = r.1 in cc in
    inr (subst (λ z. Caused G c z) is h)
cause_of_flaw G c at (Unbound p) e h r = tt
cause_of_flaw G c at (KindMismatch p wanted found) e h r = tt
cause_of_flaw G c at Memory e h r = tt

shallow_cause : (G : Scope) (c : Cn) (at : Place) (fault : KindFault) (r : Result Kd Flw) → Errs (Caused G c) r → Refuses at fault r → HasCause G c fault
shallow_cause G c at fault (Err e) h r = cause_of_flaw G c at fault e h r
shallow_cause G c at (NotDisjoint p pieces) (Ok k) h r = let i = r.1 in cc
shallow_cause G c at (TooLarge p) (Ok k) h r = let i = r.1 in cc
shallow_cause G c at (Unbound p) (Ok k) h r = tt
shallow_cause G c at (KindMismatch p wanted found) (Ok k) h r = tt
shallow_cause G c at Memory (Ok k) h r = tt

deep_cause : (G : Scope) (c : Cn) (at : Place) (fault : KindFault) → limit < depth c → Refuses at fault (Err too_large) → HasCause G c fault
deep_cause G c at (NotDisjoint p pieces) d r = let i = r.1 in cc
deep_cause G c at (TooLarge p) d r = inl d
deep_cause G c at (Unbound p) d r = tt
deep_cause G c at (KindMismatch p wanted found) d r = tt
deep_cause G c at Memory d r = tt

pub cause_of : (G : Scope) (c : Cn) (at : Place) (fault : KindFault) (t : Result Kd Flw) → t ≡ judged G c → Refuses at fault t → HasCause G c fault
cause_of G c at fault t e r = by_depth (nat_lt limit (depth c)) refl (subst (λ z. Refuses at fault z) e r)
  where
    by_depth : (b : Bool) → nat_lt limit (depth c) ≡ b → Refuses at fault (if b then Err too_large else kinding G c) → HasCause G c fault
    by_depth true i g = deep_cause G c at fault (ltb-true limit (depth c) i) g
    by_depth false i g = shallow_cause G c at fault (kinding G c) (kinding_errs G c) g
