-- The pieces of rows, and the first pair of them that isn't separated.
use Rattle.std.proofs.Common.{◌≡◌, ℕ, ◌+◌, ◌<◌, ◌≤◌, List, [], ◌∷◌, ◌++◌, map, get_or, drop, vec_len, refl, ap, ◌∙◌, sym, subst, Bool, ◌||◌, true, false, Option, None, Result, Ok, Err, append_assoc, if◌then◌else◌}
use mathlib.Core.Bool.{or-false}
use Rattle.std.specs.Option.{option_or}
use Rattle.std.proofs.lemmas.List.{map-append}
use Rattle.std.proofs.lemmas.List.Folds.{find-append}
use Rattle.con_terms.specs.View.{con_tree, pair_tree, pairs_from, con_step, cons_step, pair_step, pairs_step}
use Rattle.con_terms.specs.declared.con.Con.TheFolds.{fold_out-Pair}
use Rattle.con_terms.specs.declared.con.Pair.{Pair, out-Pair}
use Rattle.con_terms.specs.declared.con.Pairs.{Pairs, out-Pairs}
use Rattle.con_terms.specs.Trees.{Cn, Cns, Prs, app, cat, map_of}
use Rattle.con_terms.specs.Apart.{Guards, pieces, name_pieces}
use Rattle.disjoint_prover.proofs.Lists.{drop_in, drop_end}
use Rattle.row_normal.specs.SameTree.{cn_eq}
use Rattle.disjoint_prover.specs.Separation.{is_mapping, among, first_of, first_touch, pairs_of, with_each}
use Rattle.disjoint_prover.specs.View.{Gives, Tells}
use Rattle.disjoint_prover.specs.declared.fault.DisjointFault.{DisjointFault}
use Rattle.disjoint_prover.specs.declared.fault.DisjointFault.TheVariants.{Touch, Memory}

-- the pieces of an application: those of the row that is mapped, or itself
pub pieces_app : (f r : Cn) → pieces (app f r) ≡ (if is_mapping f then pieces r else app f r ∷ [])
pieces_app (app (map_of k l) g) r = refl
pieces_app f r = refl

pub pieces_mapped : (f r : Cn) → is_mapping f ≡ true → pieces (app f r) ≡ pieces r
pieces_mapped f r e = pieces_app f r ∙ ap (λ b. if b then pieces r else app f r ∷ []) e

pub pieces_unmapped : (f r : Cn) → is_mapping f ≡ false → pieces (app f r) ≡ app f r ∷ []
pieces_unmapped f r e = pieces_app f r ∙ ap (λ b. if b then pieces r else app f r ∷ []) e

pub pairs_append : (ps qs rs : List Cn) → pairs_of (ps ++ qs) rs ≡ pairs_of ps rs ++ pairs_of qs rs
pairs_append [] qs rs = refl
pairs_append (p ∷ ps) qs rs = ap (λ xs. with_each p rs ++ xs) (pairs_append ps qs rs) ∙ sym (append_assoc (with_each p rs) (pairs_of ps rs) (pairs_of qs rs))

pub first_append : (gs : Guards) (xs ys : List (Cn × Cn)) → first_of gs (xs ++ ys) ≡ option_or (first_of gs xs) (first_of gs ys)
first_append gs xs ys = find-append _ xs ys

pub touch_cat : (gs : Guards) (a b d : Cn) → first_touch gs (cat a b) d ≡ option_or (first_touch gs a d) (first_touch gs b d)
touch_cat gs a b d = ap (first_of gs) (pairs_append (pieces a) (pieces b) (pieces d)) ∙ first_append gs (pairs_of (pieces a) (pieces d)) (pairs_of (pieces b) (pieces d))

pub each_cat : (gs : Guards) (p a b : Cn) → first_of gs (with_each p (pieces (cat a b))) ≡ option_or (first_of gs (with_each p (pieces a))) (first_of gs (with_each p (pieces b)))
each_cat gs p a b = ap (first_of gs) (map-append (λ q. (p, q)) (pieces a) (pieces b)) ∙ first_append gs (with_each p (pieces a)) (with_each p (pieces b))

or_or : (a b c : Bool) → (a || (b || c)) ≡ ((a || b) || c)
or_or true b c = refl
or_or false b c = refl

pub among_append : (p : Cn) (xs ys : List Cn) → among p (xs ++ ys) ≡ (among p xs || among p ys)
among_append p [] ys = refl
among_append p (x ∷ xs) ys = ap (λ b. cn_eq x p || b) (among_append p xs ys) ∙ or_or (cn_eq x p) (among p xs) (among p ys)

-- a pair that is first among some is first among more
pub tells_before : (e : DisjointFault) (o p : Option (Cn × Cn)) → Tells e o → Tells e (option_or o p)
tells_before (Touch t) o p h = ap (λ z. option_or z p) h
tells_before Memory o p h = tt

pub gives_after : {X : Type 0} (r : Result X DisjointFault) (o p : Option (Cn × Cn)) → o ≡ None → Gives r p → Gives r (option_or o p)
gives_after (Ok x) o p h g = ap (λ z. option_or z p) h ∙ g
gives_after (Err (Touch t)) o p h g = ap (λ z. option_or z p) h ∙ g
gives_after (Err Memory) o p h g = tt

-- whether a piece is in a `++`
pub among_first : (p r a b : Cn) (x : Bool) → r ≡ cat a b → x ≡ among p (pieces a) → x ≡ true → x ≡ among p (pieces r)
among_first p r a b x e h t = t ∙ sym (ap (λ y. among p (pieces y)) e ∙ among_append p (pieces a) (pieces b) ∙ ap (λ y. y || among p (pieces b)) (sym h ∙ t))

pub among_second : (p r a b : Cn) (x y : Bool) → r ≡ cat a b → x ≡ among p (pieces a) → x ≡ false → y ≡ among p (pieces b) → y ≡ among p (pieces r)
among_second p r a b x y e h t g = g ∙ sym (ap (λ y. among p (pieces y)) e ∙ among_append p (pieces a) (pieces b) ∙ ap (λ y. y || among p (pieces b)) (sym h ∙ t))

-- an application that isn't a map has itself as its piece
pub among_itself : (p r f x : Cn) (b m : Bool) → r ≡ app f x → m ≡ is_mapping f → m ≡ false → b ≡ cn_eq r p → b ≡ among p (pieces r)
among_itself p r f x b m e h n g =
    g ∙ sym (ap (λ y. among p (pieces y)) e ∙ ap (among p) (pieces_unmapped f x (sym h ∙ n)) ∙ or-false (cn_eq (app f x) p) ∙ ap (λ y. cn_eq y p) (sym e))

-- the first pair among those of a `++`
pub each_cat_err : (gs : Guards) (p r a b : Cn) → r ≡ cat a b → (e : DisjointFault) → Tells e (first_of gs (with_each p (pieces a))) → Tells e (first_of gs (with_each p (pieces r)))
each_cat_err gs p r a b is e h =
    let P : Option (Cn × Cn) → Type 0 = λ o. Tells e o in
    subst P (sym (ap (λ y. first_of gs (with_each p (pieces y))) is ∙ each_cat gs p a b)) (tells_before e _ _ h)

pub each_cat_ok : (gs : Guards) (p r a b : Cn) → r ≡ cat a b → {X : Type 0} (res : Result X DisjointFault) → first_of gs (with_each p (pieces a)) ≡ None →
    Gives res (first_of gs (with_each p (pieces b))) → Gives res (first_of gs (with_each p (pieces r)))
each_cat_ok gs p r a b is res n h =
    let P : Option (Cn × Cn) → Type 0 = λ o. Gives res o in
    subst P (sym (ap (λ y. first_of gs (with_each p (pieces y))) is ∙ each_cat gs p a b)) (gives_after res _ _ n h)

pub touch_cat_err : (gs : Guards) (d r a b : Cn) → r ≡ cat a b → (e : DisjointFault) → Tells e (first_touch gs a d) → Tells e (first_touch gs r d)
touch_cat_err gs d r a b is e h =
    let P : Option (Cn × Cn) → Type 0 = λ o. Tells e o in
    subst P (sym (ap (λ y. first_touch gs y d) is ∙ touch_cat gs a b d)) (tells_before e _ _ h)

pub touch_cat_ok : (gs : Guards) (d r a b : Cn) → r ≡ cat a b → {X : Type 0} (res : Result X DisjointFault) → first_touch gs a d ≡ None →
    Gives res (first_touch gs b d) → Gives res (first_touch gs r d)
touch_cat_ok gs d r a b is res n h =
    let P : Option (Cn × Cn) → Type 0 = λ o. Gives res o in
    subst P (sym (ap (λ y. first_touch gs y d) is ∙ touch_cat gs a b d)) (gives_after res _ _ n h)

-- a field's name
pub pair_name : (p : Pair) → (pair_tree p).0 ≡ con_tree (out-Pair p).name
pair_name p = ap (λ (x : Cn × Cn). x.0) (fold_out-Pair Cn Cns (Cn × Cn) Prs con_step cons_step pair_step pairs_step p)

-- the pieces of the names from an index on
pub names_step : (ps : Pairs) (i : ℕ) (p : Pair) → i < vec_len (out-Pairs ps).items → p ≡ get_or (out-Pairs ps).items.items i p →
    name_pieces (pairs_from (map pair_tree (drop i (out-Pairs ps).items.items))) ≡ pieces (con_tree (out-Pair p).name) ++ name_pieces (pairs_from (map pair_tree (drop (i + 1) (out-Pairs ps).items.items)))
names_step ps i p h e =
    ap (λ xs. name_pieces (pairs_from (map pair_tree xs))) (drop_in (out-Pairs ps).items i p h e)
    ∙ ap (λ n. pieces n ++ name_pieces (pairs_from (map pair_tree (drop (i + 1) (out-Pairs ps).items.items)))) (pair_name p)

-- none are left at the end
pub names_end : (ps : Pairs) (i : ℕ) → vec_len (out-Pairs ps).items ≤ i → name_pieces (pairs_from (map pair_tree (drop i (out-Pairs ps).items.items))) ≡ []
names_end ps i h = ap (λ xs. name_pieces (pairs_from (map pair_tree xs))) (drop_end (out-Pairs ps).items i h)

each_append : (gs : Guards) (p : Cn) (ns ms : List Cn) → first_of gs (with_each p (ns ++ ms)) ≡ option_or (first_of gs (with_each p ns)) (first_of gs (with_each p ms))
each_append gs p ns ms = ap (first_of gs) (map-append (λ q. (p, q)) ns ms) ∙ first_append gs (with_each p ns) (with_each p ms)

pairs_first : (gs : Guards) (ns ms qs : List Cn) → first_of gs (pairs_of (ns ++ ms) qs) ≡ option_or (first_of gs (pairs_of ns qs)) (first_of gs (pairs_of ms qs))
pairs_first gs ns ms qs = ap (first_of gs) (pairs_append ns ms qs) ∙ first_append gs (pairs_of ns qs) (pairs_of ms qs)

-- the pieces of one more name are separated, or have the first that isn't
pub next_err : (gs : Guards) (p : Cn) (xs ns ms : List Cn) → xs ≡ ns ++ ms → (e : DisjointFault) → Tells e (first_of gs (with_each p ns)) → Tells e (first_of gs (with_each p xs))
next_err gs p xs ns ms is e h =
    let P : Option (Cn × Cn) → Type 0 = λ o. Tells e o in
    subst P (sym (ap (λ y. first_of gs (with_each p y)) is ∙ each_append gs p ns ms)) (tells_before e _ _ h)

pub next_ok : (gs : Guards) (p : Cn) (xs ns ms : List Cn) → xs ≡ ns ++ ms → first_of gs (with_each p ns) ≡ None → first_of gs (with_each p xs) ≡ first_of gs (with_each p ms)
next_ok gs p xs ns ms is h =
    ap (λ y. first_of gs (with_each p y)) is ∙ each_append gs p ns ms ∙ ap (λ o. option_or o (first_of gs (with_each p ms))) h

-- those of one more name are separated from each piece, or have the first pair that isn't
pub name_err : (gs : Guards) (xs ns ms qs : List Cn) → xs ≡ ns ++ ms → (e : DisjointFault) → Tells e (first_of gs (pairs_of ns qs)) → Tells e (first_of gs (pairs_of xs qs))
name_err gs xs ns ms qs is e h =
    let P : Option (Cn × Cn) → Type 0 = λ o. Tells e o in
    subst P (sym (ap (λ y. first_of gs (pairs_of y qs)) is ∙ pairs_first gs ns ms qs)) (tells_before e _ _ h)

pub name_ok : (gs : Guards) (xs ns ms qs : List Cn) → xs ≡ ns ++ ms → first_of gs (pairs_of ns qs) ≡ None → first_of gs (pairs_of xs qs) ≡ first_of gs (pairs_of ms qs)
name_ok gs xs ns ms qs is h =
    ap (λ y. first_of gs (pairs_of y qs)) is ∙ pairs_first gs ns ms qs ∙ ap (λ o. option_or o (first_of gs (pairs_of ms qs))) h

-- whether a piece is among those of the names from an index on
pub among_here : (p : Cn) (xs ns ms : List Cn) (b whole : Bool) → xs ≡ ns ++ ms → b ≡ among p ns → b ≡ true → whole ≡ among p xs → true ≡ whole
among_here p xs ns ms b whole is h t w = sym (w ∙ ap (among p) is ∙ among_append p ns ms ∙ ap (λ y. y || among p ms) (sym h ∙ t))

pub among_later : (p : Cn) (xs ns ms : List Cn) (b whole : Bool) → xs ≡ ns ++ ms → b ≡ among p ns → b ≡ false → whole ≡ among p xs → whole ≡ among p ms
among_later p xs ns ms b whole is h f w = w ∙ ap (among p) is ∙ among_append p ns ms ∙ ap (λ y. y || among p ms) (sym h ∙ f)

-- what a result tells, by what it is
pub gives_err : {X : Type 0} (r : Result X DisjointFault) (o : Option (Cn × Cn)) (e : DisjointFault) → r ≡ Err e → Gives r o → Tells e o
gives_err {X} r o e is h = let P : Result X DisjointFault → Type 0 = λ z. Gives z o in subst P is h

pub gives_ok : {X : Type 0} (r : Result X DisjointFault) (o : Option (Cn × Cn)) (x : X) → r ≡ Ok x → Gives r o → o ≡ None
gives_ok {X} r o x is h = let P : Result X DisjointFault → Type 0 = λ z. Gives z o in subst P is h
