-- The two kinds of a mismatch differ.
use Rattle.std.proofs.Common.{◌≡◌, ◌≢◌, ℕ, ◌+◌, Bool, true, false, List, [], ◌∷◌, ◌++◌, length, Option, Some, None, Result, Ok, Err, slice_get, if◌then◌else◌, refl, ap, sym, subst, ◌∙◌, arith, length-append}
use Rattle.std.specs.Option.{option_or}
use Rattle.con_terms.specs.Trees.{Kd, types, units, names, row_of, to, tuple_of, Kds, kind_list, Cn, var, basic, arrow, poly, guarded, record_of, app, lambda, unit_con, name, row, cat, map_of, tuple, proj, Cns, no_cons, con, Prs, no_pairs, pair, names_of}
use Rattle.con_terms.specs.Same.{kd_eq}
use Rattle.con_terms.specs.View.{kinds_from}
use Rattle.con_terms.specs.Apart.{Guards}
use Rattle.con_terms.specs.Kinded.{Scope, basic_kind, bind, assume}
use Rattle.con_terms.specs.declared.place.Place.{Place}
use Rattle.con_terms.proofs.Lists.{kind_list_from}
use Rattle.con_terms.proofs.SameKinds.{kd_eq_refl}
use Rattle.disjoint_prover.specs.Separation.{first_touch}
use Rattle.row_normal.specs.NormalForm.{nf}
use Rattle.kind_rules.specs.Flaws.{Flw, unbound_variable, unbound_basic, kinds_differ, pieces_touch, too_large, closed_by}
use Rattle.kind_rules.specs.Compared.{comparison_units, with_second, with_first, normal_forms, touch_flaw, forms_flaw, not_apart, not_apart_from, not_pairwise_apart}
use Rattle.kind_rules.specs.Faults.{Refuses, KeepsTwoKinds}
use Rattle.kind_rules.specs.Rules.{and_then, unless, or_flaw, both, outside_of, unlike, expects, expects_row, type_kind, guard_rows, guard_sides, applied_kind, same_rows, field_flaw, fields_flaw, row_flaw, component_kind}
use Rattle.kind_rules.specs.Kinding.{kinding, kinding_all, kinding_fields, judged}
use Rattle.kind_rules.specs.declared.fault.KindFault.{KindFault}
use Rattle.kind_rules.specs.declared.fault.KindFault.TheVariants.{Unbound, KindMismatch, NotDisjoint, TooLarge, Memory}

abbrev pub DiffersIn : Flw → Type 0
DiffersIn (kinds_differ k l) = k ≢ l
DiffersIn (unbound_variable i) = Unit {0}
DiffersIn (unbound_basic s) = Unit {0}
DiffersIn (pieces_touch p q) = Unit {0}
DiffersIn too_large = Unit {0}

-- where there is a flaw that is a mismatch, its kinds differ
abbrev pub Fair : {X : Type 0} → Result X Flw → Type 0
Fair (Ok x) = Unit {0}
Fair (Err e) = DiffersIn e

abbrev FairFlaw : Option Flw → Type 0
FairFlaw None = Unit {0}
FairFlaw (Some e) = DiffersIn e

pub then_fair : {X Y : Type 0} (r : Result X Flw) (f : X → Result Y Flw) → Fair r → ((x : X) → Fair (f x)) → Fair (and_then r f)
then_fair (Ok x) f h g = g x
then_fair (Err e) f h g = h

unless_fair : {X : Type 0} (o : Option Flw) (x : X) → FairFlaw o → Fair (unless o x)
unless_fair None x h = tt
unless_fair (Some e) x h = h

or_fair : (o p : Option Flw) → FairFlaw o → FairFlaw p → FairFlaw (option_or o p)
or_fair None p h g = g
or_fair (Some e) p h g = h

unlike_fair : (k l : Kd) → FairFlaw (unlike k l)
unlike_fair k l = by_test (kd_eq k l) refl
  where
    by_test : (b : Bool) → kd_eq k l ≡ b → FairFlaw (if b then None else Some (kinds_differ k l))
    by_test true e = tt
    by_test false e = λ same. let t : kd_eq k l ≡ true = ap (λ z. kd_eq k z) (sym same) ∙ kd_eq_refl k in cc

pub expects_fair : (k l : Kd) → Fair (expects k l)
expects_fair k l = unless_fair (unlike k l) l (unlike_fair k l)

pub row_fair : (k : Kd) → Fair (expects_row k)
row_fair (row_of k) = tt
row_fair types = λ e. cc
row_fair units = λ e. cc
row_fair names = λ e. cc
row_fair (to k l) = λ e. cc
row_fair (tuple_of ks) = λ e. cc

both_fair : (r s : Result Kd Flw) → Fair r → Fair s → Fair (both r s)
both_fair r s h g = then_fair r _ h (λ k. then_fair s _ g (λ l. tt))

applied_fair : (k l : Kd) → Fair (applied_kind k l)
applied_fair (to k m) l = unless_fair (unlike k l) m (unlike_fair k l)
applied_fair types l = λ e. cc
applied_fair units l = λ e. cc
applied_fair names l = λ e. cc
applied_fair (row_of k) l = λ e. cc
applied_fair (tuple_of ks) l = λ e. cc

longer_differs : (ks : Kds) → tuple_of (kinds_from (kind_list ks ++ types ∷ [])) ≢ tuple_of ks
longer_differs ks e =
    let same : kinds_from (kind_list ks ++ types ∷ []) ≡ ks = cc in
    let listed : kind_list ks ++ types ∷ [] ≡ kind_list ks = sym (kind_list_from (kind_list ks ++ types ∷ [])) ∙ ap kind_list same in
    let long : length (kind_list ks) + 1 ≡ length (kind_list ks) = sym (length-append (kind_list ks) (types ∷ [])) ∙ ap length listed in
    absurd (omega (arith, long))

or_flaw_fair : (e : Flw) (o : Option Kd) → DiffersIn e → Fair (or_flaw e o)
or_flaw_fair e None h = h
or_flaw_fair e (Some k) h = tt

no_component_fair : (n : ℕ) (k : Kd) → tuple_of (kinds_from (types ∷ [])) ≢ k → Fair {X = Kd} (or_flaw (kinds_differ (tuple_of (kinds_from (types ∷ []))) k) (slice_get [] n))
no_component_fair n k h = or_flaw_fair (kinds_differ (tuple_of (kinds_from (types ∷ []))) k) (slice_get [] n) h

component_fair : (n : ℕ) (k : Kd) → Fair (component_kind n k)
component_fair n (tuple_of ks) = or_flaw_fair _ (slice_get (kind_list ks) n) (longer_differs ks)
component_fair n types = no_component_fair n types (λ e. cc)
component_fair n units = no_component_fair n units (λ e. cc)
component_fair n names = no_component_fair n names (λ e. cc)
component_fair n (row_of k) = no_component_fair n (row_of k) (λ e. cc)
component_fair n (to k l) = no_component_fair n (to k l) (λ e. cc)

-- a comparison tells no mismatch
second_fair : (m : Cn) (o : Option (Cn × ℕ)) → Fair (with_second m o)
second_fair m None = tt
second_fair m (Some n) = tt

first_fair : (o : Option (Cn × ℕ)) (b : Cn) → Fair (with_first o b)
first_fair None b = tt
first_fair (Some m) b = second_fair m.0 (nf m.1 b)

touch_fair : (o : Option (Cn × Cn)) → FairFlaw (touch_flaw o)
touch_fair None = tt
touch_fair (Some pq) = tt

forms_fair : (gs : Guards) (r : Result (Cn × Cn) Flw) → Fair r → FairFlaw (forms_flaw gs r)
forms_fair gs (Err e) h = h
forms_fair gs (Ok mn) h = touch_fair (first_touch gs mn.0 mn.1)

apart_fair : (gs : Guards) (a b : Cn) → FairFlaw (not_apart gs a b)
apart_fair gs a b = forms_fair gs (normal_forms comparison_units a b) (first_fair (nf comparison_units a) b)

apart_from_fair : (gs : Guards) (n : Cn) (ns : List Cn) → FairFlaw (not_apart_from gs n ns)
apart_from_fair gs n [] = tt
apart_from_fair gs n (m ∷ ms) = or_fair (not_apart gs n m) _ (apart_fair gs n m) (apart_from_fair gs n ms)

pairwise_fair : (gs : Guards) (ns : List Cn) → FairFlaw (not_pairwise_apart gs ns)
pairwise_fair gs [] = tt
pairwise_fair gs (n ∷ ns) = or_fair (not_apart_from gs n ns) _ (apart_from_fair gs n ns) (pairwise_fair gs ns)

fields_fair : (k : Kd) (fs : List (Kd × Kd)) → FairFlaw (fields_flaw k fs)
fields_fair k [] = tt
fields_fair k (f ∷ fs) = or_fair (field_flaw k f) _ (or_fair (unlike names f.0) _ (unlike_fair names f.0) (unlike_fair k f.1)) (fields_fair k fs)

-- a binder closes no mismatch
closed_differs : (k : Kd) (e : Flw) → DiffersIn e → DiffersIn (closed_by k e)
closed_differs k (unbound_variable i) h = tt
closed_differs k (unbound_basic s) h = tt
closed_differs k (kinds_differ l m) h = h
closed_differs k (pieces_touch p q) h = tt
closed_differs k too_large h = tt

outside_fair : {X : Type 0} (k : Kd) (r : Result X Flw) → Fair r → Fair (outside_of k r)
outside_fair k (Ok x) h = tt
outside_fair k (Err e) h = closed_differs k e h

body_fair : (r : Result Kd Flw) → Fair r → Fair (type_kind r)
body_fair r h = then_fair r _ h (expects_fair types)

mutual
  pub kinding_fair : (G : Scope) (c : Cn) → Fair (kinding G c)
  kinding_fair G (var i) = or_flaw_fair (unbound_variable i) (slice_get G.binders i) tt
  kinding_fair G (basic s) = or_flaw_fair (unbound_basic s) (basic_kind G.basics s) tt
  kinding_fair G (arrow a b) =
      then_fair (both (kinding G a) (kinding G b)) _ (both_fair (kinding G a) (kinding G b) (kinding_fair G a) (kinding_fair G b))
      (λ k. then_fair (expects types k.0) _ (expects_fair types k.0) (λ _. expects_fair types k.1))
  kinding_fair G (poly x k b) = body_fair (outside_of k (kinding (bind k G) b)) (outside_fair k (kinding (bind k G) b) (kinding_fair (bind k G) b))
  kinding_fair G (guarded a b c) =
      then_fair (guard_sides a b (both (kinding G a) (kinding G b))) _
      (then_fair (guard_rows (both (kinding G a) (kinding G b))) _
      (then_fair (both (kinding G a) (kinding G b)) _ (both_fair (kinding G a) (kinding G b) (kinding_fair G a) (kinding_fair G b)) (λ k. both_fair (expects_row k.0) (expects_row k.1) (row_fair k.0) (row_fair k.1)))
      (λ _. first_fair (nf comparison_units a) b))
      (λ mn. body_fair (kinding (assume mn.0 mn.1 G) c) (kinding_fair (assume mn.0 mn.1 G) c))
  kinding_fair G (record_of a) = then_fair (kinding G a) _ (kinding_fair G a) (λ k. unless_fair (unlike (row_of types) k) types (unlike_fair (row_of types) k))
  kinding_fair G (app f a) =
      then_fair (both (kinding G f) (kinding G a)) _ (both_fair (kinding G f) (kinding G a) (kinding_fair G f) (kinding_fair G a)) (λ k. applied_fair k.0 k.1)
  kinding_fair G (lambda k b) = then_fair (outside_of k (kinding (bind k G) b)) _ (outside_fair k (kinding (bind k G) b) (kinding_fair (bind k G) b)) (λ l. tt)
  kinding_fair G unit_con = tt
  kinding_fair G (name s) = tt
  kinding_fair G (row k ps) =
      then_fair (kinding_fields G ps) _ (fields_found_fair G ps)
      (λ fs. unless_fair (row_flaw G.guards k ps fs) (row_of k) (or_fair (fields_flaw k fs) _ (fields_fair k fs) (pairwise_fair G.guards (names_of ps))))
  kinding_fair G (cat a b) =
      then_fair (same_rows (both (kinding G a) (kinding G b))) _
      (then_fair (both (kinding G a) (kinding G b)) _ (both_fair (kinding G a) (kinding G b) (kinding_fair G a) (kinding_fair G b))
      (λ k. then_fair (expects_row k.0) _ (row_fair k.0) (λ l. expects_fair l k.1)))
      (λ k. unless_fair (not_apart G.guards a b) k (apart_fair G.guards a b))
  kinding_fair G (map_of k l) = tt
  kinding_fair G (tuple cs) = then_fair (kinding_all G cs) _ (all_fair G cs) (λ ks. tt)
  kinding_fair G (proj c n) = then_fair (kinding G c) _ (kinding_fair G c) (component_fair n)

  all_fair : (G : Scope) (cs : Cns) → Fair (kinding_all G cs)
  all_fair G no_cons = tt
  all_fair G (con c cs) = then_fair (kinding G c) _ (kinding_fair G c) (λ k. then_fair (kinding_all G cs) _ (all_fair G cs) (λ ks. tt))

  fields_found_fair : (G : Scope) (ps : Prs) → Fair (kinding_fields G ps)
  fields_found_fair G no_pairs = tt
  fields_found_fair G (pair n v ps) =
      then_fair (both (kinding G n) (kinding G v)) _ (both_fair (kinding G n) (kinding G v) (kinding_fair G n) (kinding_fair G v))
      (λ k. then_fair (kinding_fields G ps) _ (fields_found_fair G ps) (λ ks. tt))

deep_fair : (b : Bool) (r : Result Kd Flw) → Fair r → Fair (if b then Err too_large else r)
deep_fair true r h = tt
deep_fair false r h = h

pub judged_fair : (G : Scope) (c : Cn) → Fair (judged G c)
judged_fair G c = deep_fair _ (kinding G c) (kinding_fair G c)

pub fair_of : (G : Scope) (c : Cn) (r : Result Kd Flw) → r ≡ judged G c → Fair r
fair_of G c r e = let P : Result Kd Flw → Type 0 = λ z. Fair z in subst P (sym e) (judged_fair G c)

-- what a refusal tells keeps that
pub keeps_two_kinds : (at : Place) (fault : KindFault) (t : Result Kd Flw) → Fair t → Refuses at fault t → KeepsTwoKinds fault
keeps_two_kinds at (KindMismatch p wanted found) t h r = let P : Result Kd Flw → Type 0 = λ z. Fair z in subst P r.1 h
keeps_two_kinds at (Unbound p) t h r = tt
keeps_two_kinds at (NotDisjoint p pieces) t h r = tt
keeps_two_kinds at (TooLarge p) t h r = tt
keeps_two_kinds at Memory t h r = tt
