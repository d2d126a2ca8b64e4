-- Comparing lists of kinds from an index on.
use Rattle.std.proofs.Common.{◌≡◌, ℕ, zero, suc, ◌+◌, ◌<◌, ◌≤◌, List, [], ◌∷◌, length, map, get_or, drop, refl, ap, arith, ◌∙◌, sym, Bool, ◌&&◌, true, false, drop-cons, drop_of_length-le}
use Rattle.con_terms.specs.Trees.{Kd, types, units, names, row_of, to, tuple_of, Kds, no_kinds, kind}
use Rattle.con_terms.specs.Same.{kd_eq, kds_eq}
use Rattle.con_terms.specs.View.{kind_tree, kinds_tree, kinds_from}
use Rattle.con_terms.specs.declared.kind.Kind.{Kind}
use Rattle.con_terms.specs.declared.kind.Kinds.{Kinds}
use Rattle.con_terms.specs.declared.kind.Kind.TheViews.{out-Kinds}
use Rattle.con_terms.proofs.Lists.{kinds_tree_is}

and_false : (b : Bool) → (b && false) ≡ false
and_false true = refl
and_false false = refl

pub lengths_differ : (ks ls : List Kind) → (length ks ≡ length ls → ⊥) → kds_eq (kinds_from (map kind_tree ks)) (kinds_from (map kind_tree ls)) ≡ false
lengths_differ [] [] h = absurd (h refl)
lengths_differ [] (l ∷ ls) h = refl
lengths_differ (k ∷ ks) [] h = refl
lengths_differ (k ∷ ks) (l ∷ ls) h = ap (λ b. kd_eq (kind_tree k) (kind_tree l) && b) (lengths_differ ks ls (λ e. h (ap suc e))) ∙ and_false (kd_eq (kind_tree k) (kind_tree l))

pub kinds_differ : (ks ls : Kinds) → (length (out-Kinds ks).items.items ≡ length (out-Kinds ls).items.items → ⊥) → kds_eq (kinds_tree ks) (kinds_tree ls) ≡ false
kinds_differ ks ls h = ap (λ t. kds_eq t (kinds_tree ls)) (kinds_tree_is ks) ∙ ap (λ t. kds_eq (kinds_from (map kind_tree (out-Kinds ks).items.items)) t) (kinds_tree_is ls) ∙ lengths_differ _ _ h

both_true : (a b : Bool) → (a && b) ≡ true → (a ≡ true) × (b ≡ true)
both_true true b h = (refl, h)
both_true false b h = cc

mutual
  -- kinds that compare as one are one
  pub kd_eq_same : (k l : Kd) → kd_eq k l ≡ true → k ≡ l
  kd_eq_same types types h = refl
  kd_eq_same units units h = refl
  kd_eq_same names names h = refl
  kd_eq_same (row_of k) (row_of l) h = ap row_of (kd_eq_same k l h)
  kd_eq_same (to k l) (to m n) h =
      let (p, q) = both_true (kd_eq k m) (kd_eq l n) h in
      ap (λ x. to x l) (kd_eq_same k m p) ∙ ap (λ y. to m y) (kd_eq_same l n q)
  kd_eq_same (tuple_of ks) (tuple_of ls) h = ap tuple_of (kds_eq_same ks ls h)
  kd_eq_same _ _ h = cc

  kds_eq_same : (ks ls : Kds) → kds_eq ks ls ≡ true → ks ≡ ls
  kds_eq_same no_kinds no_kinds h = refl
  kds_eq_same (kind k ks) (kind l ls) h =
      let (p, q) = both_true (kd_eq k l) (kds_eq ks ls) h in
      ap (λ x. kind x ks) (kd_eq_same k l p) ∙ ap (λ y. kind l y) (kds_eq_same ks ls q)
  kds_eq_same _ _ h = cc

mutual
  -- a kind compares as itself
  pub kd_eq_refl : (k : Kd) → kd_eq k k ≡ true
  kd_eq_refl types = refl
  kd_eq_refl units = refl
  kd_eq_refl names = refl
  kd_eq_refl (row_of k) = kd_eq_refl k
  kd_eq_refl (to k l) = rw (kd_eq_refl k, kd_eq_refl l) refl
  kd_eq_refl (tuple_of ks) = kds_eq_refl ks

  kds_eq_refl : (ks : Kds) → kds_eq ks ks ≡ true
  kds_eq_refl no_kinds = refl
  kds_eq_refl (kind k ks) = rw (kd_eq_refl k, kds_eq_refl ks) refl

-- kinds compare as one exactly where they are one
pub kd_eq_decides : (k l : Kd) → (kd_eq k l ≡ true → k ≡ l) × (k ≡ l → kd_eq k l ≡ true)
kd_eq_decides k l = (kd_eq_same k l, λ e. ap (λ z. kd_eq k z) (sym e) ∙ kd_eq_refl k)
