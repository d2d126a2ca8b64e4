-- The fields of literals, one after another (for `past_fields`, `have_fields`, `is_row_of`), and pieces of which one is
-- no literal (for `is_one_open`, `is_open`).
use Rattle.std.proofs.Common.{◌≡◌, ℕ, ◌+◌, ◌<◌, ◌≤◌, Bool, true, false, ◌&&◌, List, ◌∷◌, length, map, drop, get_or, Option, Some, None, option_and_then, option_map, refl, ap, sym, ◌∙◌}
use Rattle.con_terms.specs.Trees.{Cn, row, Prs, no_pairs, pair, con_list}
use Rattle.con_terms.specs.View.{con_tree, cons_tree, pair_tree, pairs_from, pairs_tree}
use Rattle.con_terms.specs.declared.con.Con.{Con}
use Rattle.con_terms.specs.declared.con.Cons.{Cons}
use Rattle.con_terms.specs.declared.con.Pair.{Pair}
use Rattle.con_terms.specs.declared.con.Pairs.{Pairs}
use Rattle.con_terms.specs.declared.con.Con.TheViews.{out-Cons, out-Pairs}
use Rattle.con_terms.proofs.Lists.{cons_listed, pairs_tree_is}
use Rattle.guided_terms.specs.Forms.{fields_before, literal_fields, pieces_of}
use Rattle.row_normal.specs.SameTree.{cn_eq}
use Rattle.row_normal.proofs.SameTrees.{cn_eq_same}
use Rattle.std.proofs.lemmas.List.{drop_all}
use Rattle.inserted_terms.specs.Folders.{IsLiteral, beside, fields_of, is_row}
use Rattle.inserted_terms.specs.View.{fields_left}
use Rattle.inserted_terms.proofs.Modules.{from_place}

-- two fields
pairs_are : (a b c d : Cn) → a ≡ b → c ≡ d → ◌≡◌ {A = Cn × Cn} (a, c) (b, d)
pairs_are a b c d e f = cc

same_both : (a b c d : Cn) (e f : Bool) → cn_eq a b ≡ e → cn_eq c d ≡ f → (e && f) ≡ true
    → ◌≡◌ {A = Cn × Cn} (a, c) (b, d)
same_both a b c d true true e f h = pairs_are a b c d (cn_eq_same a b e) (cn_eq_same c d f)
same_both a b c d true false e f h = absurd cc
same_both a b c d false f e g h = absurd cc

same_pair_is : (x y : Cn × Cn) → (cn_eq x.0 y.0 && cn_eq x.1 y.1) ≡ true → x ≡ y
same_pair_is x y h = same_both x.0 y.0 x.1 y.1 (cn_eq x.0 y.0) (cn_eq x.1 y.1) refl refl h

all_left : (ps : Pairs) → fields_left ps 0 ≡ pairs_tree ps
all_left ps = sym (pairs_tree_is ps)

one_left : (ps : Pairs) (i : ℕ) (p : Pair) → i < length (out-Pairs ps).items.items → p ≡ get_or (out-Pairs ps).items.items i p
    → fields_left ps i ≡ pair (pair_tree p).0 (pair_tree p).1 (fields_left ps (i + 1))
one_left ps i p l e = ap (λ xs. pairs_from (map pair_tree xs)) (from_place (out-Pairs ps).items.items i p l e)

none_left : (ps : Pairs) (i : ℕ) → length (out-Pairs ps).items.items ≤ i → fields_left ps i ≡ no_pairs
none_left ps i h = ap (λ xs. pairs_from (map pair_tree xs)) (drop_all i (out-Pairs ps).items.items h)

pub left_begin : (fs ps : Pairs) (place : ℕ) (rest : Prs) → fields_left fs place ≡ beside (fields_left ps 0) rest
    → fields_left fs place ≡ beside (pairs_tree ps) rest
left_begin fs ps place rest e = e ∙ ap (λ z. beside z rest) (all_left ps)

pub left_more : (fs ps : Pairs) (whole : Prs) (i next : ℕ) (p q : Pair)
    → i < length (out-Pairs ps).items.items → p ≡ get_or (out-Pairs ps).items.items i p
    → next < length (out-Pairs fs).items.items → q ≡ get_or (out-Pairs fs).items.items next q
    → (cn_eq (pair_tree p).0 (pair_tree q).0 && cn_eq (pair_tree p).1 (pair_tree q).1) ≡ true
    → ((rest : Prs) → fields_left fs next ≡ beside (fields_left ps i) rest → whole ≡ beside (pairs_tree ps) rest)
    → (rest : Prs) → fields_left fs (next + 1) ≡ beside (fields_left ps (i + 1)) rest
    → whole ≡ beside (pairs_tree ps) rest
left_more fs ps whole i next p q a e b f s before rest g =
    before rest (one_left fs next q b f
    ∙ ap (λ (z : Cn × Cn). pair z.0 z.1 (fields_left fs (next + 1))) (sym (same_pair_is (pair_tree p) (pair_tree q) s))
    ∙ ap (pair (pair_tree p).0 (pair_tree p).1) g
    ∙ ap (λ z. beside z rest) (sym (one_left ps i p a e)))

pub left_end : (fs ps : Pairs) (whole : Prs) (i next : ℕ) → length (out-Pairs ps).items.items ≤ i
    → ((rest : Prs) → fields_left fs next ≡ beside (fields_left ps i) rest → whole ≡ beside (pairs_tree ps) rest)
    → whole ≡ beside (pairs_tree ps) (fields_left fs next)
left_end fs ps whole i next h before =
    before (fields_left fs next) (ap (λ z. beside z (fields_left fs next)) (sym (none_left ps i h)))

-- pieces

before_some : (qs rs : Prs) → fields_before qs (Some rs) ≡ Some (beside qs rs)
before_some no_pairs rs = refl
before_some (pair n v qs) rs = ap (option_map (pair n v)) (before_some qs rs)

literal_before : (c : Cn) (more : List Cn) (all rest : Prs) → IsLiteral c all rest → literal_fields more ≡ Some rest
    → literal_fields (c ∷ more) ≡ Some all
literal_before (row k qs) more all rest i e = ap (fields_before qs) e ∙ before_some qs rest ∙ ap Some (sym i)
literal_before _ more all rest i e = absurd i

pub pieces_begin : (ps : Cons) (fs : Pairs)
    → literal_fields (map con_tree (drop 0 (out-Cons ps).items.items)) ≡ Some (fields_left fs 0)
    → literal_fields (con_list (cons_tree ps)) ≡ Some (pairs_tree fs)
pieces_begin ps fs e = ap literal_fields (cons_listed ps) ∙ e ∙ ap Some (all_left fs)

pub pieces_more : (ps : Cons) (fs : Pairs) (whole : Type 0) (i next k : ℕ) (c : Con)
    → i < length (out-Cons ps).items.items → c ≡ get_or (out-Cons ps).items.items i c
    → IsLiteral (con_tree c) (fields_left fs next) (fields_left fs k)
    → (literal_fields (map con_tree (drop i (out-Cons ps).items.items)) ≡ Some (fields_left fs next) → whole)
    → literal_fields (map con_tree (drop (i + 1) (out-Cons ps).items.items)) ≡ Some (fields_left fs k) → whole
pieces_more ps fs whole i next k c l e is before g =
    before (ap (λ xs. literal_fields (map con_tree xs)) (from_place (out-Cons ps).items.items i c l e)
    ∙ literal_before (con_tree c) (map con_tree (drop (i + 1) (out-Cons ps).items.items)) (fields_left fs next)
    (fields_left fs k) is g)

pub pieces_end : (ps : Cons) (fs : Pairs) (whole : Type 0) (i next : ℕ) → length (out-Cons ps).items.items ≤ i
    → length (out-Pairs fs).items.items ≤ next
    → (literal_fields (map con_tree (drop i (out-Cons ps).items.items)) ≡ Some (fields_left fs next) → whole)
    → whole
pieces_end ps fs whole i next h g before =
    before (ap (λ xs. literal_fields (map con_tree xs)) (drop_all i (out-Cons ps).items.items h)
    ∙ ap Some (sym (none_left fs next g)))

pub row_fields : (r : Cn) (ps : List Cn) (fs : Prs) → pieces_of r ≡ Some ps → literal_fields ps ≡ Some fs
    → fields_of r ≡ Some fs
row_fields r ps fs e f = ap (option_and_then literal_fields) e ∙ f

-- pieces of which one is no literal

none_before : (qs : Prs) (o : Option Prs) → o ≡ None → fields_before qs o ≡ None
none_before qs None e = refl
none_before qs (Some rs) e = absurd cc

behind_literal : (c : Cn) (more : List Cn) → is_row c ≡ true → literal_fields more ≡ None → literal_fields (c ∷ more) ≡ None
behind_literal (row k qs) more is e = none_before qs (literal_fields more) e
behind_literal _ more is e = absurd cc

no_literal : (c : Cn) (more : List Cn) → is_row c ≡ false → literal_fields (c ∷ more) ≡ None
no_literal (row k qs) more is = absurd cc
no_literal _ more is = refl

pub open_begin : (ps : Cons) → literal_fields (map con_tree (drop 0 (out-Cons ps).items.items)) ≡ None
    → literal_fields (con_list (cons_tree ps)) ≡ None
open_begin ps e = ap literal_fields (cons_listed ps) ∙ e

pub open_more : (ps : Cons) (whole : Type 0) (i : ℕ) (c : Con)
    → i < length (out-Cons ps).items.items → c ≡ get_or (out-Cons ps).items.items i c → is_row (con_tree c) ≡ true
    → (literal_fields (map con_tree (drop i (out-Cons ps).items.items)) ≡ None → whole)
    → literal_fields (map con_tree (drop (i + 1) (out-Cons ps).items.items)) ≡ None → whole
open_more ps whole i c l e is before g =
    before (ap (λ xs. literal_fields (map con_tree xs)) (from_place (out-Cons ps).items.items i c l e)
    ∙ behind_literal (con_tree c) (map con_tree (drop (i + 1) (out-Cons ps).items.items)) is g)

pub open_here : (ps : Cons) (whole : Type 0) (i : ℕ) (c : Con)
    → i < length (out-Cons ps).items.items → c ≡ get_or (out-Cons ps).items.items i c → is_row (con_tree c) ≡ false
    → (literal_fields (map con_tree (drop i (out-Cons ps).items.items)) ≡ None → whole)
    → whole
open_here ps whole i c l e is before =
    before (ap (λ xs. literal_fields (map con_tree xs)) (from_place (out-Cons ps).items.items i c l e)
    ∙ no_literal (con_tree c) (map con_tree (drop (i + 1) (out-Cons ps).items.items)) is)

pub open_row : (r : Cn) (ps : List Cn) → pieces_of r ≡ Some ps → literal_fields ps ≡ None → fields_of r ≡ None
open_row r ps e f = ap (option_and_then literal_fields) e ∙ f

pub large_row : (r : Cn) → pieces_of r ≡ None → fields_of r ≡ None
large_row r e = ap (option_and_then literal_fields) e
