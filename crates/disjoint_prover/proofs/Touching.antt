-- The pair that is computed is the first that nothing keeps apart.
use Rattle.std.proofs.Common.{◌≡◌, ◌≢◌, ℕ, zero, suc, List, [], ◌∷◌, ◌++◌, refl, ap, arith, ◌∙◌, sym, subst, Bool, cond, ◌&&◌, not, true, false, true≢false, Option, Some, None, append-nil}
use Rattle.std.specs.List.{All, Contains}
use Rattle.std.specs.Option.{option_or}
use Rattle.std.proofs.lemmas.Bool.{and_from, eqb-true, or_left, or_right}
use Rattle.std.proofs.lemmas.List.Elements.{All-cons, All-head, All-nil, All-tail}
use Rattle.con_terms.specs.Trees.{Cn, name}
use Rattle.con_terms.specs.Apart.{Guards, both_literal, pieces}
use Rattle.row_normal.specs.SameTree.{cn_eq}
use Rattle.row_normal.proofs.Options.{none_some}
use Rattle.row_normal.proofs.Runs.{cases_bool}
use Rattle.row_normal.proofs.SameTrees.{cn_eq_refl}
use Rattle.row_normal.proofs.StepEqual.{some_is}
use Rattle.disjoint_prover.specs.Laws.{NoneTouch, TouchIsTheFirst}
use Rattle.disjoint_prover.specs.Separation.{among, separated_by, separated_by_some, separates, with_each, pairs_of, first_of, first_touch}
use Rattle.disjoint_prover.specs.Touching.{AllKeptApart, KeptApart, Touches, different_names, on_both_sides, on_both_sides_turned, touches}
use Rattle.disjoint_prover.proofs.Pieces.{first_append}
use Rattle.disjoint_prover.proofs.Sound.{all_keep, each_keeps, separates_keeps}

-- one of some is among them
contains_among : (p : Cn) (xs : List Cn) → Contains xs p → among p xs ≡ true
contains_among p [] (k, h, e) = absurd (omega (arith, h))
contains_among p (x ∷ xs) (zero, h, e) = or_left (cn_eq x p) (among p xs) (ap (λ y. cn_eq y p) e ∙ cn_eq_refl p)
contains_among p (x ∷ xs) (suc k, h, e) = or_right (cn_eq x p) (among p xs) (contains_among p xs (k, omega (arith, h), e))

guard_found : (gs : Guards) (g : Cn × Cn) (p q : Cn) → Contains gs g → separated_by g p q ≡ true → separated_by_some gs p q ≡ true
guard_found [] g p q (k, h, e) s = absurd (omega (arith, h))
guard_found (x ∷ gs) g p q (zero, h, e) s = or_left (separated_by x p q) (separated_by_some gs p q) (ap (λ y. separated_by y p q) e ∙ s)
guard_found (x ∷ gs) g p q (suc k, h, e) s = or_right (separated_by x p q) (separated_by_some gs p q) (guard_found gs g p q (k, omega (arith, h), e) s)

other_names : (s t : ℕ) → s ≢ t → not (cn_eq (name s) (name t)) ≡ true
other_names s t h = cases_bool (cn_eq (name s) (name t)) (λ e. absurd (h (eqb-true s t e))) (λ e. ap not e)

-- what is kept apart is computed to be separated
kept_separates : (gs : Guards) (p q : Cn) → KeptApart gs p q → separates gs p q ≡ true
kept_separates gs p q (different_names {s = s} {t = t} h) = or_left (not (cn_eq (name s) (name t))) (separated_by_some gs (name s) (name t)) (other_names s t h)
kept_separates gs p q (on_both_sides {g = g} m s) =
    or_right (both_literal p q && not (cn_eq p q)) (separated_by_some gs p q)
    (guard_found gs g p q m (or_left (among p (pieces g.0) && among q (pieces g.1)) (among q (pieces g.0) && among p (pieces g.1))
    (and_from (among p (pieces g.0)) (among q (pieces g.1)) (contains_among p (pieces g.0) s.left) (contains_among q (pieces g.1) s.right))))
kept_separates gs p q (on_both_sides_turned {g = g} m s) =
    or_right (both_literal p q && not (cn_eq p q)) (separated_by_some gs p q)
    (guard_found gs g p q m (or_right (among p (pieces g.0) && among q (pieces g.1)) (among q (pieces g.0) && among p (pieces g.1))
    (and_from (among q (pieces g.0)) (among p (pieces g.1)) (contains_among q (pieces g.0) s.left) (contains_among p (pieces g.1) s.right))))

not_kept : (gs : Guards) (p q : Cn) → (KeptApart gs p q → ⊥) → separates gs p q ≡ false
not_kept gs p q h = cases_bool (separates gs p q) (λ t. absurd (h (separates_keeps gs p q t))) (λ e. e)

-- a piece with each of the other row

record InRow (gs : Guards) (p : Cn) (qs : List Cn) (pq : Cn × Cn) : Type 0 where
  before : List Cn
  at : Cn
  after : List Cn
  is : qs ≡ before ++ at ∷ after
  told : (p, at) ≡ pq
  kept : All (KeptApart gs p) before
  touch : KeptApart gs p at → ⊥

row_cases : (gs : Guards) (p q : Cn) (qs : List Cn) (pq : Cn × Cn) (b : Bool) → separates gs p q ≡ b → (first_of gs (with_each p qs) ≡ Some pq → InRow gs p qs pq) →
    cond (not b) (Some (p, q)) (first_of gs (with_each p qs)) ≡ Some pq → InRow gs p (q ∷ qs) pq
row_cases gs p q qs pq true e rest h =
    let r = rest h in
    record {
      before = q ∷ r.before;
      at = r.at;
      after = r.after;
      is = ap (λ l. q ∷ l) r.is;
      told = r.told;
      kept = All-cons (KeptApart gs p) q r.before (separates_keeps gs p q e) r.kept;
      touch = r.touch;
    }
row_cases gs p q qs pq false e rest h = record {
  before = [];
  at = q;
  after = qs;
  is = refl;
  told = some_is (p, q) pq h;
  kept = All-nil (KeptApart gs p);
  touch = λ k. true≢false (sym (kept_separates gs p q k) ∙ e);
}

row_told : (gs : Guards) (p : Cn) (qs : List Cn) (pq : Cn × Cn) → first_of gs (with_each p qs) ≡ Some pq → InRow gs p qs pq
row_told gs p [] pq h = none_some pq h
row_told gs p (q ∷ qs) pq h = row_cases gs p q qs pq (separates gs p q) refl (row_told gs p qs pq) h

-- each piece with each of the other row

record InRows (gs : Guards) (ps ds : List Cn) (pq : Cn × Cn) : Type 0 where
  before : List Cn
  at : Cn
  after : List Cn
  is : ps ≡ before ++ at ∷ after
  kept : AllKeptApart gs before ds
  row : InRow gs at ds pq

rows_cases : (gs : Guards) (p : Cn) (ps ds : List Cn) (pq : Cn × Cn) (o : Option (Cn × Cn)) → first_of gs (with_each p ds) ≡ o → (first_of gs (pairs_of ps ds) ≡ Some pq → InRows gs ps ds pq) →
    option_or o (first_of gs (pairs_of ps ds)) ≡ Some pq → InRows gs (p ∷ ps) ds pq
rows_cases gs p ps ds pq None e rest h =
    let r = rest h in
    record {
      before = p ∷ r.before;
      at = r.at;
      after = r.after;
      is = ap (λ l. p ∷ l) r.is;
      kept = All-cons (λ x. All (KeptApart gs x) ds) p r.before (each_keeps gs p ds e) r.kept;
      row = r.row;
    }
rows_cases gs p ps ds pq (Some x) e rest h = record {
  before = [];
  at = p;
  after = ps;
  is = refl;
  kept = All-nil (λ x. All (KeptApart gs x) ds);
  row = row_told gs p ds pq (e ∙ h);
}

rows_told : (gs : Guards) (ps ds : List Cn) (pq : Cn × Cn) → first_of gs (pairs_of ps ds) ≡ Some pq → InRows gs ps ds pq
rows_told gs [] ds pq h = none_some pq h
rows_told gs (p ∷ ps) ds pq h =
    rows_cases gs p ps ds pq (first_of gs (with_each p ds)) refl (rows_told gs ps ds pq) (sym (first_append gs (with_each p ds) (pairs_of ps ds)) ∙ h)

-- the pair that is computed is the first that touches
pub touch_told : (gs : Guards) (c d p q : Cn) → first_touch gs c d ≡ Some (p, q) → Touches gs c d p q
touch_told gs c d p q h =
    let r = rows_told gs (pieces c) (pieces d) (p, q) h in
    let P : Cn × Cn → Type 0 = λ pq. Touches gs c d pq.0 pq.1 in
    subst P r.row.told (touches r.before r.after r.row.before r.row.after r.is r.row.is r.kept r.row.kept r.row.touch)

-- and the other way round

skip : (gs : Guards) (p q : Cn) (xs : List (Cn × Cn)) → separates gs p q ≡ true → first_of gs ((p, q) ∷ xs) ≡ first_of gs xs
skip gs p q xs e = ap (λ b. cond (not b) (Some (p, q)) (first_of gs xs)) e

stop : (gs : Guards) (p q : Cn) (xs : List (Cn × Cn)) → separates gs p q ≡ false → first_of gs ((p, q) ∷ xs) ≡ Some (p, q)
stop gs p q xs e = ap (λ b. cond (not b) (Some (p, q)) (first_of gs xs)) e

skip_row : (gs : Guards) (p : Cn) (qs rest : List Cn) → All (KeptApart gs p) qs → first_of gs (with_each p (qs ++ rest)) ≡ first_of gs (with_each p rest)
skip_row gs p [] rest h = refl
skip_row gs p (q ∷ qs) rest h =
    skip gs p q (with_each p (qs ++ rest)) (kept_separates gs p q (All-head (KeptApart gs p) q qs h)) ∙ skip_row gs p qs rest (All-tail (KeptApart gs p) q qs h)

no_first : (gs : Guards) (p : Cn) (qs : List Cn) → All (KeptApart gs p) qs → first_of gs (with_each p qs) ≡ None
no_first gs p qs h = ap (λ l. first_of gs (with_each p l)) (sym (append-nil qs)) ∙ skip_row gs p qs [] h

skip_rows : (gs : Guards) (ps rest ds : List Cn) → AllKeptApart gs ps ds → first_of gs (pairs_of (ps ++ rest) ds) ≡ first_of gs (pairs_of rest ds)
skip_rows gs [] rest ds h = refl
skip_rows gs (p ∷ ps) rest ds h =
    first_append gs (with_each p ds) (pairs_of (ps ++ rest) ds)
    ∙ ap (λ o. option_or o (first_of gs (pairs_of (ps ++ rest) ds))) (no_first gs p ds (All-head (λ x. All (KeptApart gs x) ds) p ps h))
    ∙ skip_rows gs ps rest ds (All-tail (λ x. All (KeptApart gs x) ds) p ps h)

at_row : (gs : Guards) (p q : Cn) (before after ds : List Cn) → ds ≡ before ++ q ∷ after → All (KeptApart gs p) before → (KeptApart gs p q → ⊥) → first_of gs (with_each p ds) ≡ Some (p, q)
at_row gs p q before after ds is k t =
    ap (λ l. first_of gs (with_each p l)) is ∙ skip_row gs p before (q ∷ after) k ∙ stop gs p q (with_each p after) (not_kept gs p q t)

at_rows : (gs : Guards) (p q : Cn) (before after ps ds : List Cn) → ps ≡ before ++ p ∷ after → AllKeptApart gs before ds → first_of gs (with_each p ds) ≡ Some (p, q) → first_of gs (pairs_of ps ds) ≡ Some (p, q)
at_rows gs p q before after ps ds is k e =
    ap (λ l. first_of gs (pairs_of l ds)) is ∙ skip_rows gs before (p ∷ after) ds k
    ∙ first_append gs (with_each p ds) (pairs_of after ds) ∙ ap (λ o. option_or o (first_of gs (pairs_of after ds))) e

pub touch_computed : (gs : Guards) (c d p q : Cn) → Touches gs c d p q → first_touch gs c d ≡ Some (p, q)
touch_computed gs c d p q (touches ps ps' qs qs' is is' kept kept' touch) =
    at_rows gs p q ps ps' (pieces c) (pieces d) is kept (at_row gs p q qs qs' (pieces d) is' kept' touch)

pub touch_is_the_first : TouchIsTheFirst
touch_is_the_first gs c d p q = (touch_told gs c d p q, touch_computed gs c d p q)

none_of : (gs : Guards) (ps ds : List Cn) → AllKeptApart gs ps ds → first_of gs (pairs_of ps ds) ≡ None
none_of gs ps ds h = ap (λ l. first_of gs (pairs_of l ds)) (sym (append-nil ps)) ∙ skip_rows gs ps [] ds h

pub none_touch : NoneTouch
none_touch gs c d = (all_keep gs (pieces c) (pieces d), none_of gs (pieces c) (pieces d))
