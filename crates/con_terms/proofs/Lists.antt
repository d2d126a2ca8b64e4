-- The trees of lists: of kinds, of constructors, of fields.
use Rattle.std.proofs.Common.{◌≡◌, ℕ, zero, suc, ◌+◌, ◌<◌, ◌≤◌, max, List, [], ◌∷◌, length, map, get_or, vec_len, refl, subst, ap, arith, ◌∙◌, sym, take}
use Rattle.con_terms.specs.Trees.{Kd, Kds, kind, kind_list, Cn, Cns, Prs, con, con_list, pair, pair_list}
use Rattle.con_terms.specs.Substitution.{replaced, replaced_all, replaced_pairs}
use Rattle.con_terms.specs.Size.{top, top_all, top_pairs, nest, nest_all, nest_pairs}
use Rattle.con_terms.specs.View.{kind_tree, kinds_tree, kinds_from, kind_step, kinds_step, con_tree, cons_from, pair_tree, pairs_from, pairs_tree, cons_tree, con_step, cons_step, pair_step, pairs_step}
use Rattle.con_terms.specs.declared.kind.Kind.{Kind}
use Rattle.con_terms.specs.declared.kind.Kinds.{Kinds}
use Rattle.con_terms.specs.declared.kind.Kind.TheViews.{out-Kinds}
use Rattle.con_terms.specs.declared.kind.Kind.TheFolds.{fold_out-Kinds}
use Rattle.con_terms.specs.declared.con.Con.{Con}
use Rattle.con_terms.specs.declared.con.Pair.{Pair}
use Rattle.con_terms.specs.declared.con.Pairs.{Pairs}
use Rattle.con_terms.specs.declared.con.Cons.{Cons}
use Rattle.con_terms.specs.declared.con.Con.TheOpen.{Pairs-F, Cons-F}
use Rattle.con_terms.specs.declared.con.Con.TheViews.{out-Pairs, roll-Pairs, roll-Cons, out-Cons}
use Rattle.con_terms.specs.declared.con.Con.TheFolds.{fold_out-Pairs, fold-roll-Pairs, fold-roll-Cons, fold_out-Cons}

pub kinds_tree_is : (ks : Kinds) → kinds_tree ks ≡ kinds_from (map kind_tree (out-Kinds ks).items.items)
kinds_tree_is ks = fold_out-Kinds Kd Kds kind_step kinds_step ks

pub pairs_tree_is : (ps : Pairs) → pairs_tree ps ≡ pairs_from (map pair_tree (out-Pairs ps).items.items)
pairs_tree_is ps = fold_out-Pairs Cn Cns (Cn × Cn) Prs con_step cons_step pair_step pairs_step ps

pub pairs_tree-roll : (r : Pairs-F Con Cons Pair Pairs) → pairs_tree (roll-Pairs r) ≡ pairs_from (map pair_tree r.items.items)
pairs_tree-roll r = fold-roll-Pairs Cn Cns (Cn × Cn) Prs con_step cons_step pair_step pairs_step r

pub cons_tree_is : (cs : Cons) → cons_tree cs ≡ cons_from (map con_tree (out-Cons cs).items.items)
cons_tree_is cs = fold_out-Cons Cn Cns (Cn × Cn) Prs con_step cons_step pair_step pairs_step cs

pub cons_tree-roll : (r : Cons-F Con Cons Pair Pairs) → cons_tree (roll-Cons r) ≡ cons_from (map con_tree r.items.items)
cons_tree-roll r = fold-roll-Cons Cn Cns (Cn × Cn) Prs con_step cons_step pair_step pairs_step r

-- a list's tree has the list's elements
pub kind_list_from : (ks : List Kd) → kind_list (kinds_from ks) ≡ ks
kind_list_from [] = refl
kind_list_from (k ∷ ks) = ap (λ ls. k ∷ ls) (kind_list_from ks)

pub con_list_from : (cs : List Cn) → con_list (cons_from cs) ≡ cs
con_list_from [] = refl
con_list_from (c ∷ cs) = ap (λ ds. c ∷ ds) (con_list_from cs)

pub pair_list_from : (ps : List (Cn × Cn)) → pair_list (pairs_from ps) ≡ ps
pair_list_from [] = refl
pair_list_from (p ∷ ps) = ap (λ qs. p ∷ qs) (pair_list_from ps)

-- what each list is seen as
pub kinds_listed : (ks : Kinds) → kind_list (kinds_tree ks) ≡ map kind_tree (out-Kinds ks).items.items
kinds_listed ks = ap kind_list (kinds_tree_is ks) ∙ kind_list_from (map kind_tree (out-Kinds ks).items.items)

pub cons_listed : (cs : Cons) → con_list (cons_tree cs) ≡ map con_tree (out-Cons cs).items.items
cons_listed cs = ap con_list (cons_tree_is cs) ∙ con_list_from (map con_tree (out-Cons cs).items.items)

pub pairs_listed : (ps : Pairs) → pair_list (pairs_tree ps) ≡ map pair_tree (out-Pairs ps).items.items
pairs_listed ps = ap pair_list (pairs_tree_is ps) ∙ pair_list_from (map pair_tree (out-Pairs ps).items.items)

pub pairs_listed-roll : (r : Pairs-F Con Cons Pair Pairs) → pair_list (pairs_tree (roll-Pairs r)) ≡ map pair_tree r.items.items
pairs_listed-roll r = ap pair_list (pairs_tree-roll r) ∙ pair_list_from (map pair_tree r.items.items)

-- a walk over a list's tree is a walk over each element
pub replaced_all-map : (f : ℕ → ℕ → Cn) (d : ℕ) (cs : List Cn) → replaced_all f (cons_from cs) d ≡ cons_from (map (λ c. replaced f c d) cs)
replaced_all-map f d [] = refl
replaced_all-map f d (c ∷ cs) = ap (con (replaced f c d)) (replaced_all-map f d cs)

pub replaced_pairs-map : (f : ℕ → ℕ → Cn) (d : ℕ) (ps : List (Cn × Cn)) →
    replaced_pairs f (pairs_from ps) d ≡ pairs_from (map (λ (p : Cn × Cn). (replaced f p.0 d, replaced f p.1 d)) ps)
replaced_pairs-map f d [] = refl
replaced_pairs-map f d (p ∷ ps) = ap (pair (replaced f p.0 d) (replaced f p.1 d)) (replaced_pairs-map f d ps)

-- the bounds of a list hold of each element
top_at : (cs : List Con) (i : ℕ) (d : Con) → i < length cs → top (con_tree (get_or cs i d)) ≤ top_all (cons_from (map con_tree cs))
top_at [] i d h = omega arith
top_at (c ∷ cs) zero d h = omega arith
top_at (c ∷ cs) (suc i) d h = omega (arith, top_at cs i d (omega arith))

nest_at : (cs : List Con) (i : ℕ) (d : Con) → i < length cs → nest (con_tree (get_or cs i d)) ≤ nest_all (cons_from (map con_tree cs))
nest_at [] i d h = omega arith
nest_at (c ∷ cs) zero d h = omega arith
nest_at (c ∷ cs) (suc i) d h = omega (arith, nest_at cs i d (omega arith))

tops_at : (ps : List Pair) (i : ℕ) (d : Pair) → i < length ps →
    (top (pair_tree (get_or ps i d)).0 ≤ top_pairs (pairs_from (map pair_tree ps))) × (top (pair_tree (get_or ps i d)).1 ≤ top_pairs (pairs_from (map pair_tree ps)))
tops_at [] i d h = absurd (omega arith)
tops_at (p ∷ ps) zero d h = (omega arith, omega arith)
tops_at (p ∷ ps) (suc i) d h = let (m, n) = tops_at ps i d (omega arith) in (omega arith, omega arith)

nests_at : (ps : List Pair) (i : ℕ) (d : Pair) → i < length ps →
    (nest (pair_tree (get_or ps i d)).0 ≤ nest_pairs (pairs_from (map pair_tree ps))) × (nest (pair_tree (get_or ps i d)).1 ≤ nest_pairs (pairs_from (map pair_tree ps)))
nests_at [] i d h = absurd (omega arith)
nests_at (p ∷ ps) zero d h = (omega arith, omega arith)
nests_at (p ∷ ps) (suc i) d h = let (m, n) = nests_at ps i d (omega arith) in (omega arith, omega arith)

pub top_of : (cs : Cons) (x : Con) (i n : ℕ) → x ≡ get_or cs.items.items i x → i < vec_len cs.items → top_all (cons_tree cs) < n → top (con_tree x) < n
top_of cs x i n e h m =
    let at : i < length cs.items.items = omega (arith, cs.items.ok.0) in
    let same : top (con_tree x) ≡ top (con_tree (get_or cs.items.items i x)) = ap (λ c. top (con_tree c)) e in
    let all : top_all (cons_tree cs) ≡ top_all (cons_from (map con_tree cs.items.items)) = ap top_all (cons_tree_is cs) in
    omega (arith, top_at cs.items.items i x at, same, all, m)

pub nest_of : (cs : Cons) (x : Con) (i n d : ℕ) → x ≡ get_or cs.items.items i x → i < vec_len cs.items → d + nest_all (cons_tree cs) < n → d + nest (con_tree x) < n
nest_of cs x i n d e h m =
    let at : i < length cs.items.items = omega (arith, cs.items.ok.0) in
    let same : nest (con_tree x) ≡ nest (con_tree (get_or cs.items.items i x)) = ap (λ c. nest (con_tree c)) e in
    let all : nest_all (cons_tree cs) ≡ nest_all (cons_from (map con_tree cs.items.items)) = ap nest_all (cons_tree_is cs) in
    omega (arith, nest_at cs.items.items i x at, same, all, m)

pub tops_of : (ps : Pairs) (x : Pair) (i n : ℕ) → x ≡ get_or (out-Pairs ps).items.items i x → i < vec_len (out-Pairs ps).items →
    top_pairs (pairs_tree ps) < n → (top (pair_tree x).0 < n) × (top (pair_tree x).1 < n)
tops_of ps x i n e h m =
    let xs = (out-Pairs ps).items.items in
    let at : i < length xs = omega (arith, (out-Pairs ps).items.ok.0) in
    let same : top (pair_tree x).0 ≡ top (pair_tree (get_or xs i x)).0 = ap (λ c. top (pair_tree c).0) e in
    let same' : top (pair_tree x).1 ≡ top (pair_tree (get_or xs i x)).1 = ap (λ c. top (pair_tree c).1) e in
    let all : top_pairs (pairs_tree ps) ≡ top_pairs (pairs_from (map pair_tree xs)) = ap top_pairs (pairs_tree_is ps) in
    let (l, r) = tops_at xs i x at in
    (omega (arith, l, same, all, m), omega (arith, r, same', all, m))

pub nests_of : (ps : Pairs) (x : Pair) (i n d : ℕ) → x ≡ get_or (out-Pairs ps).items.items i x → i < vec_len (out-Pairs ps).items →
    d + nest_pairs (pairs_tree ps) < n → (d + nest (pair_tree x).0 < n) × (d + nest (pair_tree x).1 < n)
nests_of ps x i n d e h m =
    let xs = (out-Pairs ps).items.items in
    let at : i < length xs = omega (arith, (out-Pairs ps).items.ok.0) in
    let same : nest (pair_tree x).0 ≡ nest (pair_tree (get_or xs i x)).0 = ap (λ c. nest (pair_tree c).0) e in
    let same' : nest (pair_tree x).1 ≡ nest (pair_tree (get_or xs i x)).1 = ap (λ c. nest (pair_tree c).1) e in
    let all : nest_pairs (pairs_tree ps) ≡ nest_pairs (pairs_from (map pair_tree xs)) = ap nest_pairs (pairs_tree_is ps) in
    let (l, r) = nests_at xs i x at in
    (omega (arith, l, same, all, m), omega (arith, r, same', all, m))
