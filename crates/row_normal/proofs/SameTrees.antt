-- Trees that compare as one are one.
use Rattle.std.proofs.Common.{◌≡◌, ℕ, suc, ◌==◌, Bool, true, false, ◌&&◌, ◌+◌, ◌<◌, ◌≤◌, List, [], ◌∷◌, length, map, get_or, drop, drop_of_length-le, refl, ap, sym, ◌∙◌, arith, eqb-true}
use mathlib.Core.Bool.{and-false}
use Rattle.con_terms.specs.Trees.{Cn, var, basic, arrow, poly, guarded, record_of, app, lambda, unit_con, name, row, cat, map_of, tuple, proj, Cns, no_cons, con, Prs, no_pairs, pair}
use Rattle.con_terms.specs.Same.{kd_eq}
use Rattle.con_terms.specs.View.{con_tree, cons_tree, cons_from, pair_tree, pairs_tree, pairs_from}
use Rattle.con_terms.specs.declared.con.Con.{Con}
use Rattle.con_terms.specs.declared.con.Cons.{Cons}
use Rattle.con_terms.specs.declared.con.Pair.{Pair}
use Rattle.con_terms.specs.declared.con.Pairs.{Pairs}
use Rattle.con_terms.specs.declared.con.Con.TheViews.{out-Cons, out-Pairs}
use Rattle.con_terms.proofs.Lists.{cons_tree_is, pairs_tree_is}
use Rattle.con_terms.proofs.SameKinds.{kd_eq_same, kd_eq_refl}
use Rattle.row_normal.specs.SameTree.{flag_eq, cn_eq, cns_eq, prs_eq}
use Rattle.row_normal.proofs.Coded.{open_at}
use Rattle.row_normal.proofs.Options.{both_from}

number_refl : (i : ℕ) → (i == i) ≡ true
number_refl i = grind arith

flag_same : (x y : Bool) → flag_eq x y ≡ true → x ≡ y
flag_same true true h = refl
flag_same false false h = refl
flag_same _ _ h = cc

flag_refl : (x : Bool) → flag_eq x x ≡ true
flag_refl true = refl
flag_refl false = refl

mutual
  pub cn_eq_same : (c d : Cn) → cn_eq c d ≡ true → c ≡ d
  cn_eq_same (var i) (var j) h = ap var (eqb-true i j h)
  cn_eq_same (basic s) (basic t) h = ap basic (eqb-true s t h)
  cn_eq_same (arrow a b) (arrow c d) h = let (p, q) = both_from (cn_eq a c) (cn_eq b d) h in ap (λ z. arrow z b) (cn_eq_same a c p) ∙ ap (λ z. arrow c z) (cn_eq_same b d q)
  cn_eq_same (poly x k a) (poly y l b) h =
      let (r, s) = both_from (flag_eq x y && kd_eq k l) (cn_eq a b) h in
      let (p, q) = both_from (flag_eq x y) (kd_eq k l) r in
      ap (λ z. poly z k a) (flag_same x y p) ∙ ap (λ z. poly y z a) (kd_eq_same k l q) ∙ ap (λ z. poly y l z) (cn_eq_same a b s)
  cn_eq_same (guarded a b c) (guarded d e f) h =
      let (r, s) = both_from (cn_eq a d && cn_eq b e) (cn_eq c f) h in
      let (p, q) = both_from (cn_eq a d) (cn_eq b e) r in
      ap (λ z. guarded z b c) (cn_eq_same a d p) ∙ ap (λ z. guarded d z c) (cn_eq_same b e q) ∙ ap (λ z. guarded d e z) (cn_eq_same c f s)
  cn_eq_same (record_of a) (record_of b) h = ap record_of (cn_eq_same a b h)
  cn_eq_same (app a b) (app c d) h = let (p, q) = both_from (cn_eq a c) (cn_eq b d) h in ap (λ z. app z b) (cn_eq_same a c p) ∙ ap (λ z. app c z) (cn_eq_same b d q)
  cn_eq_same (lambda k a) (lambda l b) h = let (p, q) = both_from (kd_eq k l) (cn_eq a b) h in ap (λ z. lambda z a) (kd_eq_same k l p) ∙ ap (λ z. lambda l z) (cn_eq_same a b q)
  cn_eq_same unit_con unit_con h = refl
  cn_eq_same (name s) (name t) h = ap name (eqb-true s t h)
  cn_eq_same (row k ps) (row l qs) h = let (p, q) = both_from (kd_eq k l) (prs_eq ps qs) h in ap (λ z. row z ps) (kd_eq_same k l p) ∙ ap (λ z. row l z) (prs_eq_same ps qs q)
  cn_eq_same (cat a b) (cat c d) h = let (p, q) = both_from (cn_eq a c) (cn_eq b d) h in ap (λ z. cat z b) (cn_eq_same a c p) ∙ ap (λ z. cat c z) (cn_eq_same b d q)
  cn_eq_same (map_of k l) (map_of m n) h = let (p, q) = both_from (kd_eq k m) (kd_eq l n) h in ap (λ z. map_of z l) (kd_eq_same k m p) ∙ ap (λ z. map_of m z) (kd_eq_same l n q)
  cn_eq_same (tuple cs) (tuple ds) h = ap tuple (cns_eq_same cs ds h)
  cn_eq_same (proj a m) (proj b n) h = let (p, q) = both_from (m == n) (cn_eq a b) h in ap (λ z. proj a z) (eqb-true m n p) ∙ ap (λ z. proj z n) (cn_eq_same a b q)
  cn_eq_same _ _ h = cc

  cns_eq_same : (cs ds : Cns) → cns_eq cs ds ≡ true → cs ≡ ds
  cns_eq_same no_cons no_cons h = refl
  cns_eq_same (con c cs) (con d ds) h = let (p, q) = both_from (cn_eq c d) (cns_eq cs ds) h in ap (λ z. con z cs) (cn_eq_same c d p) ∙ ap (λ z. con d z) (cns_eq_same cs ds q)
  cns_eq_same _ _ h = cc

  prs_eq_same : (ps qs : Prs) → prs_eq ps qs ≡ true → ps ≡ qs
  prs_eq_same no_pairs no_pairs h = refl
  prs_eq_same (pair n v ps) (pair m w qs) h =
      let (r, s) = both_from (cn_eq n m && cn_eq v w) (prs_eq ps qs) h in
      let (p, q) = both_from (cn_eq n m) (cn_eq v w) r in
      ap (λ z. pair z v ps) (cn_eq_same n m p) ∙ ap (λ z. pair m z ps) (cn_eq_same v w q) ∙ ap (λ z. pair m w z) (prs_eq_same ps qs s)
  prs_eq_same _ _ h = cc

mutual
  pub cn_eq_refl : (c : Cn) → cn_eq c c ≡ true
  cn_eq_refl (var i) = number_refl i
  cn_eq_refl (basic s) = number_refl s
  cn_eq_refl (arrow a b) = rw (cn_eq_refl a, cn_eq_refl b) refl
  cn_eq_refl (poly x k a) = rw (flag_refl x, kd_eq_refl k, cn_eq_refl a) refl
  cn_eq_refl (guarded a b c) = rw (cn_eq_refl a, cn_eq_refl b, cn_eq_refl c) refl
  cn_eq_refl (record_of a) = cn_eq_refl a
  cn_eq_refl (app a b) = rw (cn_eq_refl a, cn_eq_refl b) refl
  cn_eq_refl (lambda k a) = rw (kd_eq_refl k, cn_eq_refl a) refl
  cn_eq_refl unit_con = refl
  cn_eq_refl (name s) = number_refl s
  cn_eq_refl (row k ps) = rw (kd_eq_refl k, prs_eq_refl ps) refl
  cn_eq_refl (cat a b) = rw (cn_eq_refl a, cn_eq_refl b) refl
  cn_eq_refl (map_of k l) = rw (kd_eq_refl k, kd_eq_refl l) refl
  cn_eq_refl (tuple cs) = cns_eq_refl cs
  cn_eq_refl (proj a n) = rw (number_refl n, cn_eq_refl a) refl

  cns_eq_refl : (cs : Cns) → cns_eq cs cs ≡ true
  cns_eq_refl no_cons = refl
  cns_eq_refl (con c cs) = rw (cn_eq_refl c, cns_eq_refl cs) refl

  prs_eq_refl : (ps : Prs) → prs_eq ps ps ≡ true
  prs_eq_refl no_pairs = refl
  prs_eq_refl (pair n v ps) = rw (cn_eq_refl n, cn_eq_refl v, prs_eq_refl ps) refl

-- trees compare as one exactly where they are one
pub cn_eq_decides : (c d : Cn) → (cn_eq c d ≡ true → c ≡ d) × (c ≡ d → cn_eq c d ≡ true)
cn_eq_decides c d = (cn_eq_same c d, λ e. ap (λ z. cn_eq c z) (sym e) ∙ cn_eq_refl c)

cons_lengths_differ : (cs ds : List Con) → (length cs ≡ length ds → ⊥) → cns_eq (cons_from (map con_tree cs)) (cons_from (map con_tree ds)) ≡ false
cons_lengths_differ [] [] h = absurd (h refl)
cons_lengths_differ [] (d ∷ ds) h = refl
cons_lengths_differ (c ∷ cs) [] h = refl
cons_lengths_differ (c ∷ cs) (d ∷ ds) h = ap (λ b. cn_eq (con_tree c) (con_tree d) && b) (cons_lengths_differ cs ds (λ e. h (ap suc e))) ∙ and-false (cn_eq (con_tree c) (con_tree d))

pub cons_differ : (cs ds : Cons) → (length (out-Cons cs).items.items ≡ length (out-Cons ds).items.items → ⊥) → cns_eq (cons_tree cs) (cons_tree ds) ≡ false
cons_differ cs ds h = ap (λ t. cns_eq t (cons_tree ds)) (cons_tree_is cs) ∙ ap (λ t. cns_eq (cons_from (map con_tree (out-Cons cs).items.items)) t) (cons_tree_is ds) ∙ cons_lengths_differ _ _ h

pairs_lengths_differ : (ps qs : List Pair) → (length ps ≡ length qs → ⊥) → prs_eq (pairs_from (map pair_tree ps)) (pairs_from (map pair_tree qs)) ≡ false
pairs_lengths_differ [] [] h = absurd (h refl)
pairs_lengths_differ [] (d ∷ ds) h = refl
pairs_lengths_differ (c ∷ cs) [] h = refl
pairs_lengths_differ (c ∷ cs) (d ∷ ds) h =
    ap (λ b. (cn_eq (pair_tree c).0 (pair_tree d).0 && cn_eq (pair_tree c).1 (pair_tree d).1) && b) (pairs_lengths_differ cs ds (λ e. h (ap suc e)))
    ∙ and-false (cn_eq (pair_tree c).0 (pair_tree d).0 && cn_eq (pair_tree c).1 (pair_tree d).1)

pub pairs_differ : (ps qs : Pairs) → (length (out-Pairs ps).items.items ≡ length (out-Pairs qs).items.items → ⊥) → prs_eq (pairs_tree ps) (pairs_tree qs) ≡ false
pairs_differ ps qs h = ap (λ t. prs_eq t (pairs_tree qs)) (pairs_tree_is ps) ∙ ap (λ t. prs_eq (pairs_from (map pair_tree (out-Pairs ps).items.items)) t) (pairs_tree_is qs) ∙ pairs_lengths_differ _ _ h

-- one field more, and no more fields
pub prs_eq_next : (ps qs : List Pair) (i : ℕ) (x y : Pair) → x ≡ get_or ps i x → y ≡ get_or qs i y → i < length ps → i < length qs →
    prs_eq (pairs_from (map pair_tree (drop i ps))) (pairs_from (map pair_tree (drop i qs)))
    ≡ ((cn_eq (pair_tree x).0 (pair_tree y).0 && cn_eq (pair_tree x).1 (pair_tree y).1) && prs_eq (pairs_from (map pair_tree (drop (i + 1) ps))) (pairs_from (map pair_tree (drop (i + 1) qs))))
prs_eq_next ps qs i x y e f h g =
    ap (λ zs. prs_eq (pairs_from (map pair_tree zs)) (pairs_from (map pair_tree (drop i qs)))) (open_at ps i x e h)
    ∙ ap (λ zs. prs_eq (pairs_from (map pair_tree (x ∷ drop (i + 1) ps))) (pairs_from (map pair_tree zs))) (open_at qs i y f g)

pub prs_eq_end : (ps qs : List Pair) (i : ℕ) → length ps ≤ i → length qs ≤ i → prs_eq (pairs_from (map pair_tree (drop i ps))) (pairs_from (map pair_tree (drop i qs))) ≡ true
prs_eq_end ps qs i h g =
    ap (λ zs. prs_eq (pairs_from (map pair_tree zs)) (pairs_from (map pair_tree (drop i qs)))) (drop_of_length-le ps h)
    ∙ ap (λ zs. prs_eq no_pairs (pairs_from (map pair_tree zs))) (drop_of_length-le qs g)

pub prs_eq_more : (ps qs : List Pair) (i : ℕ) (x y : Pair) → x ≡ get_or ps i x → y ≡ get_or qs i y → i < length ps → i < length qs →
    (cn_eq (pair_tree x).0 (pair_tree y).0 && cn_eq (pair_tree x).1 (pair_tree y).1) ≡ true →
    prs_eq (pairs_from (map pair_tree (drop i ps))) (pairs_from (map pair_tree (drop i qs))) ≡ prs_eq (pairs_from (map pair_tree (drop (i + 1) ps))) (pairs_from (map pair_tree (drop (i + 1) qs)))
prs_eq_more ps qs i x y e f h g s = prs_eq_next ps qs i x y e f h g ∙ ap (λ b. b && prs_eq (pairs_from (map pair_tree (drop (i + 1) ps))) (pairs_from (map pair_tree (drop (i + 1) qs)))) s
