-- The numbers of a list's trees, one after another.
use Rattle.std.proofs.Common.{◌≡◌, ℕ, suc, ◌+◌, ◌<◌, ◌≤◌, List, [], ◌∷◌, ◌++◌, length, map, get_or, drop, drop-cons, drop_of_length-le, vec_len, refl, sym, ap, ◌∙◌, append_assoc, append-nil, arith}
use Rattle.con_terms.specs.View.{kind_tree, kinds_from, kinds_tree, con_tree, cons_from, cons_tree, pair_tree, pairs_from, pairs_tree}
use Rattle.con_terms.specs.declared.kind.Kind.{Kind}
use Rattle.con_terms.specs.declared.kind.Kinds.{Kinds}
use Rattle.con_terms.specs.declared.kind.Kind.TheViews.{out-Kinds}
use Rattle.con_terms.specs.declared.con.Con.{Con}
use Rattle.con_terms.specs.declared.con.Cons.{Cons}
use Rattle.con_terms.specs.declared.con.Pair.{Pair}
use Rattle.con_terms.specs.declared.con.Pairs.{Pairs}
use Rattle.con_terms.specs.declared.con.Con.TheViews.{out-Pairs}
use Rattle.con_terms.proofs.Lists.{kinds_tree_is, cons_tree_is, pairs_tree_is}
use Rattle.row_normal.specs.Ordered.{kind_code, kinds_code, kinds_count, con_code, cons_code, cons_count, pairs_code, pairs_count}

abbrev pub codes : {X : Type 0} → (X → List ℕ) → List X → List ℕ
codes f [] = []
codes f (x ∷ xs) = f x ++ codes f xs

-- what is left of a list from an index on, opened
pub open_at : {X : Type 0} (xs : List X) (i : ℕ) (x : X) → x ≡ get_or xs i x → i < length xs → drop i xs ≡ x ∷ drop (i + 1) xs
open_at xs i x e h = drop-cons xs i x h ∙ ap (λ y. y ∷ drop (suc i) xs) (sym e) ∙ ap (λ n. x ∷ drop n xs) (let p : suc i ≡ i + 1 = omega arith in p)

-- one more
pub coded_more : {X : Type 0} (f : X → List ℕ) (xs : List X) (i : ℕ) (x : X) (all key new : List ℕ) →
    key ++ codes f (drop i xs) ≡ all → x ≡ get_or xs i x → i < length xs → new ≡ key ++ f x → new ++ codes f (drop (i + 1) xs) ≡ all
coded_more f xs i x all key new h e l d =
    ap (λ k. k ++ codes f (drop (i + 1) xs)) d ∙ append_assoc key (f x) (codes f (drop (i + 1) xs))
    ∙ ap (λ ys. key ++ codes f ys) (sym (open_at xs i x e l)) ∙ h

-- no more, after what comes before them
pub coded_all : {X : Type 0} (f : X → List ℕ) (xs : List X) (i : ℕ) (old before start key : List ℕ) →
    key ++ codes f (drop i xs) ≡ start ++ codes f xs → length xs ≤ i → start ≡ old ++ before → key ≡ old ++ (before ++ codes f xs)
coded_all f xs i old before start key h l e =
    sym (append-nil key) ∙ ap (λ ys. key ++ codes f ys) (sym (drop_of_length-le xs l)) ∙ h
    ∙ ap (λ s. s ++ codes f xs) e ∙ append_assoc old before (codes f xs)

abbrev pub kind_numbers : Kind → List ℕ
kind_numbers k = kind_code (kind_tree k)

abbrev pub con_numbers : Con → List ℕ
con_numbers c = con_code (con_tree c)

abbrev pub pair_numbers : Pair → List ℕ
pair_numbers p = con_code (pair_tree p).0 ++ con_code (pair_tree p).1

kinds_counted : (ks : List Kind) → length ks ≡ kinds_count (kinds_from (map kind_tree ks))
kinds_counted [] = refl
kinds_counted (k ∷ ks) = ap suc (kinds_counted ks)

kinds_listed : (ks : List Kind) → codes kind_numbers ks ≡ kinds_code (kinds_from (map kind_tree ks))
kinds_listed [] = refl
kinds_listed (k ∷ ks) = ap (λ l. kind_numbers k ++ l) (kinds_listed ks)

pub kinds_coded : (ks : Kinds) → vec_len (out-Kinds ks).items ∷ codes kind_numbers (out-Kinds ks).items.items ≡ kinds_count (kinds_tree ks) ∷ kinds_code (kinds_tree ks)
kinds_coded ks =
    let xs = (out-Kinds ks).items in
    let n : vec_len xs ≡ kinds_count (kinds_tree ks) = let l : vec_len xs ≡ length xs.items = omega (arith, xs.ok.0) in l ∙ kinds_counted xs.items ∙ ap kinds_count (sym (kinds_tree_is ks)) in
    ap (λ m. m ∷ codes kind_numbers xs.items) n ∙ ap (λ l. kinds_count (kinds_tree ks) ∷ l) (kinds_listed xs.items ∙ ap kinds_code (sym (kinds_tree_is ks)))

cons_counted : (cs : List Con) → length cs ≡ cons_count (cons_from (map con_tree cs))
cons_counted [] = refl
cons_counted (c ∷ cs) = ap suc (cons_counted cs)

cons_listed : (cs : List Con) → codes con_numbers cs ≡ cons_code (cons_from (map con_tree cs))
cons_listed [] = refl
cons_listed (c ∷ cs) = ap (λ l. con_numbers c ++ l) (cons_listed cs)

pub cons_coded : (cs : Cons) → vec_len cs.items ∷ codes con_numbers cs.items.items ≡ cons_count (cons_tree cs) ∷ cons_code (cons_tree cs)
cons_coded cs =
    let xs = cs.items in
    let n : vec_len xs ≡ cons_count (cons_tree cs) = let l : vec_len xs ≡ length xs.items = omega (arith, xs.ok.0) in l ∙ cons_counted xs.items ∙ ap cons_count (sym (cons_tree_is cs)) in
    ap (λ m. m ∷ codes con_numbers xs.items) n ∙ ap (λ l. cons_count (cons_tree cs) ∷ l) (cons_listed xs.items ∙ ap cons_code (sym (cons_tree_is cs)))

pairs_counted : (ps : List Pair) → length ps ≡ pairs_count (pairs_from (map pair_tree ps))
pairs_counted [] = refl
pairs_counted (p ∷ ps) = ap suc (pairs_counted ps)

pairs_listed : (ps : List Pair) → codes pair_numbers ps ≡ pairs_code (pairs_from (map pair_tree ps))
pairs_listed [] = refl
pairs_listed (p ∷ ps) = ap (λ l. pair_numbers p ++ l) (pairs_listed ps)

pub pairs_coded : (ps : Pairs) → vec_len (out-Pairs ps).items ∷ codes pair_numbers (out-Pairs ps).items.items ≡ pairs_count (pairs_tree ps) ∷ pairs_code (pairs_tree ps)
pairs_coded ps =
    let xs = (out-Pairs ps).items in
    let n : vec_len xs ≡ pairs_count (pairs_tree ps) = let l : vec_len xs ≡ length xs.items = omega (arith, xs.ok.0) in l ∙ pairs_counted xs.items ∙ ap pairs_count (sym (pairs_tree_is ps)) in
    ap (λ m. m ∷ codes pair_numbers xs.items) n ∙ ap (λ l. pairs_count (pairs_tree ps) ∷ l) (pairs_listed xs.items ∙ ap pairs_code (sym (pairs_tree_is ps)))
