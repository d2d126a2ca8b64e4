-- A constructor keeps its kind under steps, and where eta redexes are removed.
use Rattle.std.proofs.Common.{◌≡◌, ℕ, zero, suc, Bool, true, false, if◌then◌else◌, inl, inr, List, ◌∷◌, Option, Some, None, option_map, slice_get, refl, ap, sym, subst, ◌∙◌, arith}
use Rattle.std.specs.List.{All}
use Rattle.std.proofs.lemmas.List.Elements.{All-cons, All-nil}
use Rattle.con_terms.specs.Trees.{Kd, types, units, names, row_of, to, tuple_of, Kds, no_kinds, kind, kind_list, Cn, var, arrow, poly, guarded, record_of, app, lambda, unit_con, name, row, cat, tuple, proj, Cns, no_cons, con, con_list, Prs, no_pairs, pair, names_of}
use Rattle.con_terms.specs.Substitution.{subst_at}
use Rattle.con_terms.specs.Substitution as walk
use Rattle.con_terms.specs.Same.{kd_eq}
use Rattle.con_terms.specs.Equal.{Equal, same, back, step as chain, in_app, after, mapped, EqualPairs, none_pairs, one_pair}
use Rattle.con_terms.specs.Apart.{Guards, Apart, apart, PairwiseApart}
use Rattle.con_terms.specs.Kinded.{Scope, bind, Kinded, of_var, of_basic, of_arrow, of_poly, of_guarded, of_record, of_app, of_lambda, of_unit, of_name, of_row, of_cat, of_map, of_tuple, of_proj, KindedAll, no_components, a_component, KindedPairs, no_fields, a_field}
use Rattle.con_terms.proofs.Walks.{subst_gone}
use Rattle.kind_rules.proofs.Guarded.{kinded_under}
use Rattle.row_normal.specs.Steps.{applied, is_identity, map_over, map_step, root_step, or_else, step, step_all, step_pairs, with_step, run, deeper, reduced}
use Rattle.row_normal.specs.Contracted.{mentions, contract, contracted, contracted_all, contracted_pairs}
use Rattle.row_normal.proofs.Options.{none_some, or_else_from, option_map_from}
use Rattle.row_normal.proofs.StepEqual.{some_is, identity_is, step_equal, first_is}
use Rattle.row_normal.proofs.EtaEqual.{lowered, contracted_equal}
use Rattle.core_typing.proofs.KindsStay.{kinds_substitute, under_one, shift_none}

-- rows equal to rows that are apart
apart_along : {gs : Guards} {a b c d : Cn} → Equal a c → Equal b d → Apart gs a b → Apart gs c d
apart_along e g (apart h k m) = apart (chain (back e) h) (chain (back g) k) m

first_of_all : {X : Type 0} (P : X → Type 0) (x : X) (xs : List X) → All P (x ∷ xs) → P x
first_of_all P x xs h = h 0 x (omega arith)

rest_of_all : {X : Type 0} (P : X → Type 0) (x : X) (xs : List X) → All P (x ∷ xs) → All P xs
rest_of_all P x xs h = λ k d i. h (suc k) d (omega (arith, i))

each_apart : {gs : Guards} {n m : Cn} {ps qs : Prs} → Equal n m → EqualPairs ps qs → All (Apart gs n) (names_of ps) → All (Apart gs m) (names_of qs)
each_apart {gs} {m = m} e none_pairs h = All-nil (Apart gs m)
each_apart {gs} {n} {m} e (one_pair {n = x} {n' = y} {ps = ps} {qs = qs} i j k) h =
    All-cons (Apart gs m) y (names_of qs) (apart_along e i (first_of_all (Apart gs n) x (names_of ps) h)) (each_apart e k (rest_of_all (Apart gs n) x (names_of ps) h))

pairwise_along : (gs : Guards) {ps qs : Prs} → EqualPairs ps qs → PairwiseApart gs (names_of ps) → PairwiseApart gs (names_of qs)
pairwise_along gs none_pairs h = tt
pairwise_along gs (one_pair i j k) h = (each_apart i k h.0, pairwise_along gs k h.1)

-- fields after a step, and without eta redexes
same_fields : (ps : Prs) → EqualPairs ps ps
same_fields no_pairs = none_pairs
same_fields (pair n v ps) = one_pair same same (same_fields ps)

fields_step : (ps qs : Prs) → step_pairs ps ≡ Some qs → EqualPairs ps qs
fields_step no_pairs qs h = none_some qs h
fields_step (pair n v ps) qs h =
    elim (or_else_from (option_map (λ x. pair x v ps) (step n)) (or_else (option_map (λ x. pair n x ps) (step v)) (option_map (λ xs. pair n v xs) (step_pairs ps))) qs h) [
      | inl e ↦ (let (y, is, g) = option_map_from (λ x. pair x v ps) (step n) qs e in subst (λ xs. EqualPairs (pair n v ps) xs) g (one_pair (step_equal n y is) same (same_fields ps)))
      | inr e ↦
          elim (or_else_from (option_map (λ x. pair n x ps) (step v)) (option_map (λ xs. pair n v xs) (step_pairs ps)) qs e) [
            | inl i ↦ (let (y, is, g) = option_map_from (λ x. pair n x ps) (step v) qs i in subst (λ xs. EqualPairs (pair n v ps) xs) g (one_pair same (step_equal v y is) (same_fields ps)))
            | inr i ↦ (let (ys, is, g) = option_map_from (λ xs. pair n v xs) (step_pairs ps) qs i in subst (λ xs. EqualPairs (pair n v ps) xs) g (one_pair same same (fields_step ps ys is)))
          ]
    ]

fields_contracted : (ps : Prs) → EqualPairs ps (contracted_pairs ps)
fields_contracted no_pairs = none_pairs
fields_contracted (pair n v ps) = one_pair (contracted_equal n) (contracted_equal v) (fields_contracted ps)

-- what is one of two, and what is made of a part
kept_either : (P : Cn → Type 0) (o p : Option Cn) (d : Cn) → (o ≡ Some d → P d) → (p ≡ Some d → P d) → or_else o p ≡ Some d → P d
kept_either P o p d f g h = elim (or_else_from o p d h) [ inl e ↦ f e | inr e ↦ g e ]

kept_part : (P : Cn → Type 0) (whole : Cn → Cn) (o : Option Cn) (d : Cn) → ((y : Cn) → o ≡ Some y → P (whole y)) → option_map whole o ≡ Some d → P d
kept_part P whole o d f h = let (y, is, e) = option_map_from whole o d h in subst P e (f y is)

this_one : (P : Cn → Type 0) (c d : Cn) → P c → Some c ≡ Some d → P d
this_one P c d h e = subst P (some_is c d e) h

-- maps
applied_names : (f : Cn) (ps : Prs) → names_of (applied f ps) ≡ names_of ps
applied_names f no_pairs = refl
applied_names f (pair n v ps) = ap (λ xs. n ∷ xs) (applied_names f ps)

applied_kinds : {G : Scope} {k l : Kd} {f : Cn} {ps : Prs} → Kinded G f (to k l) → KindedPairs G ps k → KindedPairs G (applied f ps) l
applied_kinds h no_fields = no_fields
applied_kinds h (a_field n v ps) = a_field n (of_app h v) (applied_kinds h ps)

mapped_kind : {G : Scope} {k l : Kd} {f r : Cn} → Kinded G f (to k l) → Kinded G r (row_of k) → Kinded G (mapped k l f r) (row_of l)
mapped_kind h r = of_app (of_app of_map h) r

mapped_apart : {gs : Guards} {k l : Kd} {f a b : Cn} → Apart gs a b → Apart gs (mapped k l f a) (mapped k l f b)
mapped_apart (apart h k m) = apart (in_app same h) (in_app same k) m

if_kept : (P : Cn → Type 0) (b : Bool) (c d : Cn) → P c → (if b then Some c else None) ≡ Some d → P d
if_kept P true c d h e = this_one P c d h e
if_kept P false c d h e = none_some d e

over_kept : {G : Scope} {f r : Cn} (k l : Kd) → Kinded G f (to k l) → Kinded G r (row_of k) → (d : Cn) → map_over k l f r ≡ Some d → Kinded G d (row_of l)
over_kept {G} {f} k l h (of_row {ps = ps} p m) d e =
    if_kept (λ x. Kinded G x (row_of l)) (kd_eq k k) (row l (applied f ps)) d (of_row (applied_kinds h p) (subst (λ ns. PairwiseApart G.guards ns) (sym (applied_names f ps)) m)) e
over_kept {G} {f} k l h (of_cat {a = a} {b = b} p q m) d e =
    this_one (λ x. Kinded G x (row_of l)) (cat (mapped k l f a) (mapped k l f b)) d (of_cat (mapped_kind h p) (mapped_kind h q) (mapped_apart m)) e
over_kept {G} {f} k l h (of_app {a = r} (of_app {a = g} (of_map {k = j}) x) y) d e =
    if_kept (λ x. Kinded G x (row_of l)) (kd_eq k k) (mapped j l (after j f g) r) d (mapped_kind (of_lambda (of_app (under_one h) (of_app (under_one x) (of_var {i = 0} refl)))) y) e
over_kept k l h _ d e = none_some d e

map_kept : {G : Scope} {f r : Cn} (k l : Kd) → Kinded G f (to k l) → Kinded G r (row_of k) → (d : Cn) → map_step k l f r ≡ Some d → Kinded G d (row_of l)
map_kept {G} {f} {r} k l h i d e = cases (is_identity k l f) refl e
  where
    cases : (b : Bool) → is_identity k l f ≡ b → (if b then Some r else map_over k l f r) ≡ Some d → Kinded G d (row_of l)
    cases true is g = subst (λ j. Kinded G d (row_of j)) (identity_is k l f is).1 (this_one (λ x. Kinded G x (row_of k)) r d i g)
    cases false is g = over_kept k l h i d g

-- tuples
component_kept : {G : Scope} {cs : Cns} {ks : Kds} → KindedAll G cs ks → (n : ℕ) (d : Cn) (k : Kd) → slice_get (con_list cs) n ≡ Some d → slice_get (kind_list ks) n ≡ Some k → Kinded G d k
component_kept no_components n d k h e = none_some d h
component_kept {G} (a_component {c = c} {k = l} x xs) zero d k h e = subst (λ j. Kinded G d j) (some_kind l k e) (this_one (λ y. Kinded G y l) c d x h)
  where
    some_kind : (i j : Kd) → Some i ≡ Some j → i ≡ j
    some_kind i j e = cc
component_kept (a_component x xs) (suc n) d k h e = component_kept xs n d k h e

-- a step at the root
applied_kept : {G : Scope} {f a : Cn} {k l : Kd} → Kinded G f (to k l) → Kinded G a k → (d : Cn) → root_step (app f a) ≡ Some d → Kinded G d l
applied_kept {G} {a = a} {l = l} (of_lambda {k = k} {b = b} h) x d e = this_one (λ y. Kinded G y l) (walk.subst b a) d (kinds_substitute G k a b l x h) e
applied_kept (of_app (of_map {k = k} {l = l}) f) r d e = map_kept k l f r d e
applied_kept _ x d e = none_some d e

projected_kept : {G : Scope} {c : Cn} {ks : Kds} (n : ℕ) (k : Kd) → Kinded G c (tuple_of ks) → slice_get (kind_list ks) n ≡ Some k → (d : Cn) → root_step (proj c n) ≡ Some d → Kinded G d k
projected_kept n k (of_tuple h) g d e = component_kept h n d k e g
projected_kept n k _ g d e = none_some d e

mutual
  pub step_kept : {G : Scope} {c : Cn} {k : Kd} → Kinded G c k → (d : Cn) → step c ≡ Some d → Kinded G d k
  step_kept (of_var e) d h = none_some d h
  step_kept (of_basic e) d h = none_some d h
  step_kept {G} (of_arrow {a = a} {b = b} p q) d h =
      kept_either (λ x. Kinded G x types) (option_map (λ x. arrow x b) (step a)) (option_map (λ x. arrow a x) (step b)) d
      (kept_part (λ x. Kinded G x types) (λ x. arrow x b) (step a) d (λ y is. of_arrow (step_kept p y is) q))
      (kept_part (λ x. Kinded G x types) (λ x. arrow a x) (step b) d (λ y is. of_arrow p (step_kept q y is))) h
  step_kept {G} (of_poly {x = x} {k = k} {b = b} p) d h = kept_part (λ y. Kinded G y types) (λ y. poly x k y) (step b) d (λ y is. of_poly (step_kept p y is)) h
  step_kept {G} (of_guarded {a = a} {b = b} {c = c} p q r) d h =
      kept_either (λ x. Kinded G x types) (option_map (λ x. guarded x b c) (step a)) (or_else (option_map (λ x. guarded a x c) (step b)) (option_map (λ x. guarded a b x) (step c))) d
      (kept_part (λ x. Kinded G x types) (λ x. guarded x b c) (step a) d (λ y is. of_guarded (step_kept p y is) q (kinded_under (back (step_equal a y is)) same r)))
      (kept_either (λ x. Kinded G x types) (option_map (λ x. guarded a x c) (step b)) (option_map (λ x. guarded a b x) (step c)) d
      (kept_part (λ x. Kinded G x types) (λ x. guarded a x c) (step b) d (λ y is. of_guarded p (step_kept q y is) (kinded_under same (back (step_equal b y is)) r)))
      (kept_part (λ x. Kinded G x types) (λ x. guarded a b x) (step c) d (λ y is. of_guarded p q (step_kept r y is)))) h
  step_kept {G} (of_record {a = a} p) d h = kept_part (λ x. Kinded G x types) (λ x. record_of x) (step a) d (λ y is. of_record (step_kept p y is)) h
  step_kept {G} {k = k} (of_app {f = f} {a = a} p q) d h =
      kept_either (λ x. Kinded G x k) (root_step (app f a)) (or_else (option_map (λ x. app x a) (step f)) (option_map (λ x. app f x) (step a))) d
      (applied_kept p q d)
      (kept_either (λ x. Kinded G x k) (option_map (λ x. app x a) (step f)) (option_map (λ x. app f x) (step a)) d
      (kept_part (λ x. Kinded G x k) (λ x. app x a) (step f) d (λ y is. of_app (step_kept p y is) q))
      (kept_part (λ x. Kinded G x k) (λ x. app f x) (step a) d (λ y is. of_app p (step_kept q y is)))) h
  step_kept {G} (of_lambda {k = k} {l = l} {b = b} p) d h = kept_part (λ x. Kinded G x (to k l)) (λ x. lambda k x) (step b) d (λ y is. of_lambda (step_kept p y is)) h
  step_kept of_unit d h = none_some d h
  step_kept of_name d h = none_some d h
  step_kept {G} (of_row {k = k} {ps = ps} p m) d h =
      let (qs, is, e) = option_map_from (λ xs. row k xs) (step_pairs ps) d h in
      subst (λ x. Kinded G x (row_of k)) e (of_row (step_pairs_kept p qs is) (pairwise_along G.guards (fields_step ps qs is) m))
  step_kept {G} (of_cat {a = a} {b = b} {k = k} p q m) d h =
      kept_either (λ x. Kinded G x (row_of k)) (option_map (λ x. cat x b) (step a)) (option_map (λ x. cat a x) (step b)) d
      (kept_part (λ x. Kinded G x (row_of k)) (λ x. cat x b) (step a) d (λ y is. of_cat (step_kept p y is) q (apart_along (step_equal a y is) same m)))
      (kept_part (λ x. Kinded G x (row_of k)) (λ x. cat a x) (step b) d (λ y is. of_cat p (step_kept q y is) (apart_along same (step_equal b y is) m))) h
  step_kept of_map d h = none_some d h
  step_kept {G} (of_tuple {cs = cs} {ks = ks} p) d h =
      let (ds, is, e) = option_map_from (λ xs. tuple xs) (step_all cs) d h in
      subst (λ x. Kinded G x (tuple_of ks)) e (of_tuple (step_all_kept p ds is))
  step_kept {G} {k = k} (of_proj {c = c} {n = n} p e) d h =
      kept_either (λ x. Kinded G x k) (root_step (proj c n)) (option_map (λ x. proj x n) (step c)) d
      (projected_kept n k p e d)
      (kept_part (λ x. Kinded G x k) (λ x. proj x n) (step c) d (λ y is. of_proj (step_kept p y is) e)) h

  step_all_kept : {G : Scope} {cs : Cns} {ks : Kds} → KindedAll G cs ks → (ds : Cns) → step_all cs ≡ Some ds → KindedAll G ds ks
  step_all_kept no_components ds h = none_some ds h
  step_all_kept {G} (a_component {c = c} {cs = cs} {k = k} {ks = ks} p q) ds h =
      elim (or_else_from (option_map (λ x. con x cs) (step c)) (option_map (λ xs. con c xs) (step_all cs)) ds h) [
        | inl e ↦ (let (y, is, g) = option_map_from (λ x. con x cs) (step c) ds e in subst (λ xs. KindedAll G xs (kind k ks)) g (a_component (step_kept p y is) q))
        | inr e ↦ (let (ys, is, g) = option_map_from (λ xs. con c xs) (step_all cs) ds e in subst (λ xs. KindedAll G xs (kind k ks)) g (a_component p (step_all_kept q ys is)))
      ]

  step_pairs_kept : {G : Scope} {ps : Prs} {k : Kd} → KindedPairs G ps k → (qs : Prs) → step_pairs ps ≡ Some qs → KindedPairs G qs k
  step_pairs_kept no_fields qs h = none_some qs h
  step_pairs_kept {G} {k = k} (a_field {n = n} {v = v} {ps = ps} p q r) qs h =
      elim (or_else_from (option_map (λ x. pair x v ps) (step n)) (or_else (option_map (λ x. pair n x ps) (step v)) (option_map (λ xs. pair n v xs) (step_pairs ps))) qs h) [
        | inl e ↦ (let (y, is, g) = option_map_from (λ x. pair x v ps) (step n) qs e in subst (λ xs. KindedPairs G xs k) g (a_field (step_kept p y is) q r))
        | inr e ↦
            elim (or_else_from (option_map (λ x. pair n x ps) (step v)) (option_map (λ xs. pair n v xs) (step_pairs ps)) qs e) [
              | inl i ↦ (let (y, is, g) = option_map_from (λ x. pair n x ps) (step v) qs i in subst (λ xs. KindedPairs G xs k) g (a_field p (step_kept q y is) r))
              | inr i ↦ (let (ys, is, g) = option_map_from (λ xs. pair n v xs) (step_pairs ps) qs i in subst (λ xs. KindedPairs G xs k) g (a_field p q (step_pairs_kept r ys is)))
            ]
      ]

-- what steps leave at last
after_kept : {G : Scope} {k : Kd} (o : Option Cn) (c d : Cn) (left now : ℕ) (go : Cn → Option (Cn × ℕ)) → step c ≡ o → Kinded G c k → ((y : Cn) → Kinded G y k → go y ≡ Some (d, now) → Kinded G d k) → with_step o (Some (c, left)) go ≡ Some (d, now) → Kinded G d k
after_kept {G} {k} None c d left now go e h each g = subst (λ x. Kinded G x k) (first_is (c, left) (d, now) g) h
after_kept (Some y) c d left now go e h each g = each y (step_kept h y e) g

stopped_kept : {G : Scope} {k : Kd} (b : Bool) (c d : Cn) (left now : ℕ) (go : Cn → Option (Cn × ℕ)) → Kinded G c k → ((y : Cn) → Kinded G y k → go y ≡ Some (d, now) → Kinded G d k) → (if b then None else with_step (step c) (Some (c, left)) go) ≡ Some (d, now) → Kinded G d k
stopped_kept true c d left now go h each g = none_some (d, now) g
stopped_kept false c d left now go h each g = after_kept (step c) c d left now go refl h each g

run_kept : {G : Scope} {k : Kd} (deep : Cn → Bool) (left now : ℕ) (c d : Cn) → Kinded G c k → run step deep (λ _. false) left c ≡ Some (d, now) → Kinded G d k
run_kept deep zero now c d h e = none_some (d, now) e
run_kept deep (suc left) now c d h e = stopped_kept (deep c) c d (suc left) now (λ y. run step deep (λ _. false) left y) h (λ y k g. run_kept deep left now y d k g) e

pub reduced_kept : {G : Scope} {k : Kd} (room left now : ℕ) (c d : Cn) → Kinded G c k → reduced room left c ≡ Some (d, now) → Kinded G d k
reduced_kept room left now c d h e = run_kept (deeper room) left now c d h e

-- each kind has a constructor without free variables
abbrev mutual
  some_con : Kd → Cn
  some_con types = record_of (row types no_pairs)
  some_con units = unit_con
  some_con names = name 0
  some_con (row_of k) = row k no_pairs
  some_con (to k l) = lambda k (some_con l)
  some_con (tuple_of ks) = tuple (some_cons ks)

  some_cons : Kds → Cns
  some_cons no_kinds = no_cons
  some_cons (kind k ks) = con (some_con k) (some_cons ks)

mutual
  some_kinded : (G : Scope) (k : Kd) → Kinded G (some_con k) k
  some_kinded G types = of_record (of_row no_fields tt)
  some_kinded G units = of_unit
  some_kinded G names = of_name
  some_kinded G (row_of k) = of_row no_fields tt
  some_kinded G (to k l) = of_lambda (some_kinded (bind k G) l)
  some_kinded G (tuple_of ks) = of_tuple (some_all_kinded G ks)

  some_all_kinded : (G : Scope) (ks : Kds) → KindedAll G (some_cons ks) ks
  some_all_kinded G no_kinds = no_components
  some_all_kinded G (kind k ks) = a_component (some_kinded G k) (some_all_kinded G ks)

-- what isn't mentioned may be anything
unmentioned : (f a : Cn) → mentions f 0 ≡ false → walk.subst f a ≡ walk.subst f unit_con
unmentioned f a h = ap (λ x. subst_at a x 0) (sym (lowered f 0 h)) ∙ subst_gone a (walk.subst f unit_con) 0 0 (omega arith) ∙ shift_none (walk.subst f unit_con)

-- eta
under_binder : (G : Scope) (f : Cn) (k l : Kd) → Kinded (bind k G) (app f (var 0)) l → Kinded (bind k G) f (to k l)
under_binder G f k l (of_app {k = j} h (of_var e)) = let is : k ≡ j = cc in subst (λ x. Kinded (bind k G) f (to x l)) (sym is) h

contract_cases : {G : Scope} {f : Cn} {k l : Kd} (b : Bool) → mentions f 0 ≡ b → Kinded (bind k G) (app f (var 0)) l → Kinded G (if b then lambda k (app f (var 0)) else walk.subst f unit_con) (to k l)
contract_cases true e h = of_lambda h
contract_cases {G} {f} {k} {l} false e h = subst (λ x. Kinded G x (to k l)) (unmentioned f (some_con k) e) (kinds_substitute G k (some_con k) f (to k l) (some_kinded G k) (under_binder G f k l h))

contract_kept : {G : Scope} {k l : Kd} (b : Cn) → Kinded (bind k G) b l → Kinded G (contract k b) (to k l)
contract_kept (app f (var zero)) h = contract_cases (mentions f 0) refl h
contract_kept _ h = of_lambda h

mutual
  pub contracted_kept : {G : Scope} {c : Cn} {k : Kd} → Kinded G c k → Kinded G (contracted c) k
  contracted_kept (of_var e) = of_var e
  contracted_kept (of_basic e) = of_basic e
  contracted_kept (of_arrow p q) = of_arrow (contracted_kept p) (contracted_kept q)
  contracted_kept (of_poly p) = of_poly (contracted_kept p)
  contracted_kept (of_guarded {a = a} {b = b} p q r) = of_guarded (contracted_kept p) (contracted_kept q) (kinded_under (back (contracted_equal a)) (back (contracted_equal b)) (contracted_kept r))
  contracted_kept (of_record p) = of_record (contracted_kept p)
  contracted_kept (of_app p q) = of_app (contracted_kept p) (contracted_kept q)
  contracted_kept (of_lambda {b = b} p) = contract_kept (contracted b) (contracted_kept p)
  contracted_kept of_unit = of_unit
  contracted_kept of_name = of_name
  contracted_kept {G} (of_row {ps = ps} p m) = of_row (contracted_pairs_kept p) (pairwise_along G.guards (fields_contracted ps) m)
  contracted_kept (of_cat {a = a} {b = b} p q m) = of_cat (contracted_kept p) (contracted_kept q) (apart_along (contracted_equal a) (contracted_equal b) m)
  contracted_kept of_map = of_map
  contracted_kept (of_tuple p) = of_tuple (contracted_all_kept p)
  contracted_kept (of_proj p e) = of_proj (contracted_kept p) e

  contracted_all_kept : {G : Scope} {cs : Cns} {ks : Kds} → KindedAll G cs ks → KindedAll G (contracted_all cs) ks
  contracted_all_kept no_components = no_components
  contracted_all_kept (a_component p q) = a_component (contracted_kept p) (contracted_all_kept q)

  contracted_pairs_kept : {G : Scope} {ps : Prs} {k : Kd} → KindedPairs G ps k → KindedPairs G (contracted_pairs ps) k
  contracted_pairs_kept no_fields = no_fields
  contracted_pairs_kept (a_field p q r) = a_field (contracted_kept p) (contracted_kept q) (contracted_pairs_kept r)
