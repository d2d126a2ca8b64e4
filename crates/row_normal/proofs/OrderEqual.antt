-- A constructor with its rows in order is equal to it.
use Rattle.std.proofs.Common.{◌≡◌, ℕ, Bool, true, false, List, [], ◌∷◌, ◌++◌, if◌then◌else◌, refl, subst}
use Rattle.con_terms.specs.Trees.{Kd, Cn, var, basic, arrow, poly, guarded, record_of, app, lambda, unit_con, name, row, cat, map_of, tuple, proj, Cns, no_cons, con, Prs, no_pairs, pair}
use Rattle.con_terms.specs.Same.{kd_eq}
use Rattle.con_terms.specs.Equal.{Equal, same, back, step as chain, in_arrow, in_poly, in_guarded, in_record, in_app, in_lambda, in_row, in_cat, in_tuple, in_proj, cat_swaps, cat_groups, cat_unit, row_splits, EqualAll, none_all, one_all, none_pairs, one_pair}
use Rattle.con_terms.proofs.SameKinds.{kd_eq_same}
use Rattle.row_normal.specs.Pieces.{written_fields, written_pieces}
use Rattle.row_normal.specs.Ordered.{before, insert, sorted, leading_fields, after_leading, glued, joined, ordered, ordered_pieces, field_pieces, ordered_all, first_kind}

-- the pieces one after another, before the empty literal
abbrev pub cats : Kd → List Cn → Cn
cats k [] = row k no_pairs
cats k (p ∷ ps) = cat p (cats k ps)

one : {k : Kd} {c : Cn} → Equal (cat c (row k no_pairs)) c
one = chain cat_swaps cat_unit

turn : {p q r : Cn} → Equal (cat p (cat q r)) (cat q (cat p r))
turn = chain (back cat_groups) (chain (in_cat cat_swaps same) cat_groups)

-- pieces joined by ++ are the pieces one after another
pub joined_equal : (k : Kd) (ps : List Cn) → Equal (cats k ps) (joined k ps)
joined_equal k [] = same
joined_equal k (p ∷ []) = one
joined_equal k (p ∷ q ∷ ps) = in_cat same (joined_equal k (q ∷ ps))

insert_cases : (k : Kd) (p q : Cn) (qs : List Cn) (b : Bool) → Equal (cat p (cats k qs)) (cats k (insert p qs)) → Equal (cat p (cat q (cats k qs))) (cats k (if b then q ∷ insert p qs else p ∷ q ∷ qs))
insert_cases k p q qs true h = chain turn (in_cat same h)
insert_cases k p q qs false h = same

insert_equal : (k : Kd) (p : Cn) (qs : List Cn) → Equal (cat p (cats k qs)) (cats k (insert p qs))
insert_equal k p [] = same
insert_equal k p (q ∷ qs) = insert_cases k p q qs (before q p) (insert_equal k p qs)

sorted_equal : (k : Kd) (ps : List Cn) → Equal (cats k ps) (cats k (sorted ps))
sorted_equal k [] = same
sorted_equal k (p ∷ ps) = chain (in_cat same (sorted_equal k ps)) (insert_equal k p (sorted ps))

leading_cases : (j k l : Kd) (n : ℕ) (w : Cn) (rest : List Cn) (b : Bool) → kd_eq k l ≡ b → Equal (cats j rest) (cat (row k (leading_fields k rest)) (cats j (after_leading k rest))) →
    Equal (cat (row l (pair (name n) w no_pairs)) (cats j rest)) (cat (row k (if b then pair (name n) w (leading_fields k rest) else no_pairs)) (cats j (if b then after_leading k rest else row l (pair (name n) w no_pairs) ∷ rest)))
leading_cases j k l n w rest true e h =
    let P : Kd → Type 0 = λ z. Equal (cat (row z (pair (name n) w no_pairs)) (cats j rest)) (cat (row k (pair (name n) w (leading_fields k rest))) (cats j (after_leading k rest))) in
    subst P (kd_eq_same k l e) (chain (in_cat same h) (chain (back cat_groups) (in_cat (back row_splits) same)))
leading_cases j k l n w rest false e h = back cat_unit

-- the leading fields and what follows them
leading_equal : (j k : Kd) (ps : List Cn) → Equal (cats j ps) (cat (row k (leading_fields k ps)) (cats j (after_leading k ps)))
leading_equal j k (row l (pair (name n) w no_pairs) ∷ rest) = leading_cases j k l n w rest (kd_eq k l) refl (leading_equal j k rest)
leading_equal j k _ = back cat_unit

glued_equal : (j : Kd) (ps : List Cn) → Equal (cats j ps) (cats j (glued ps))
glued_equal j (row k (pair (name s) v no_pairs) ∷ ps) = chain (in_cat same (leading_equal j k ps)) (chain (back cat_groups) (in_cat (back row_splits) same))
glued_equal j _ = same

pub in_order_equal : (k : Kd) (ps : List Cn) → Equal (cats k ps) (joined k (glued (sorted ps)))
in_order_equal k ps = chain (sorted_equal k ps) (chain (glued_equal k (sorted ps)) (joined_equal k (glued (sorted ps))))

-- the kind of the empty literal at the end does not matter
pub kind_moves : (l k : Kd) (ps : List Cn) → Equal (cats l ps) (cats k ps)
kind_moves l k [] = chain (back cat_unit) (chain cat_swaps cat_unit)
kind_moves l k (p ∷ ps) = in_cat same (kind_moves l k ps)

pub cats_append : (k : Kd) (ps qs : List Cn) → Equal (cat (cats k ps) (cats k qs)) (cats k (ps ++ qs))
cats_append k [] qs = cat_unit
cats_append k (p ∷ ps) qs = chain cat_groups (in_cat same (cats_append k ps qs))

mutual
  pub ordered_equal : (c : Cn) → Equal c (ordered c)
  ordered_equal (var i) = same
  ordered_equal (basic s) = same
  ordered_equal (arrow a b) = in_arrow (ordered_equal a) (ordered_equal b)
  ordered_equal (poly x k b) = in_poly (ordered_equal b)
  ordered_equal (guarded a b c) = in_guarded (ordered_equal a) (ordered_equal b) (ordered_equal c)
  ordered_equal (record_of a) = in_record (ordered_equal a)
  ordered_equal (app a b) = in_app (ordered_equal a) (ordered_equal b)
  ordered_equal (lambda k b) = in_lambda (ordered_equal b)
  ordered_equal unit_con = same
  ordered_equal (name s) = same
  ordered_equal (row k ps) = chain (fields_equal k ps) (in_order_equal k (field_pieces k ps))
  ordered_equal (cat a b) =
      chain (in_cat (pieces_equal (first_kind a) a) (pieces_equal (first_kind a) b))
      (chain (cats_append (first_kind a) (ordered_pieces a) (ordered_pieces b)) (in_order_equal (first_kind a) (ordered_pieces a ++ ordered_pieces b)))
  ordered_equal (map_of k l) = same
  ordered_equal (tuple cs) = in_tuple (ordered_all_equal cs)
  ordered_equal (proj a n) = in_proj (ordered_equal a)

  pieces_equal : (k : Kd) (c : Cn) → Equal c (cats k (ordered_pieces c))
  pieces_equal k (row l ps) = chain (fields_equal l ps) (kind_moves l k (field_pieces l ps))
  pieces_equal k (cat a b) = chain (in_cat (pieces_equal k a) (pieces_equal k b)) (cats_append k (ordered_pieces a) (ordered_pieces b))
  pieces_equal k (var i) = back one
  pieces_equal k (basic s) = back one
  pieces_equal k (arrow a b) = chain (in_arrow (ordered_equal a) (ordered_equal b)) (back one)
  pieces_equal k (poly x l b) = chain (in_poly (ordered_equal b)) (back one)
  pieces_equal k (guarded a b c) = chain (in_guarded (ordered_equal a) (ordered_equal b) (ordered_equal c)) (back one)
  pieces_equal k (record_of a) = chain (in_record (ordered_equal a)) (back one)
  pieces_equal k (app a b) = chain (in_app (ordered_equal a) (ordered_equal b)) (back one)
  pieces_equal k (lambda l b) = chain (in_lambda (ordered_equal b)) (back one)
  pieces_equal k unit_con = back one
  pieces_equal k (name s) = back one
  pieces_equal k (map_of l m) = back one
  pieces_equal k (tuple cs) = chain (in_tuple (ordered_all_equal cs)) (back one)
  pieces_equal k (proj a n) = chain (in_proj (ordered_equal a)) (back one)

  fields_equal : (k : Kd) (ps : Prs) → Equal (row k ps) (cats k (field_pieces k ps))
  fields_equal k no_pairs = same
  fields_equal k (pair n v ps) = chain row_splits (in_cat (in_row (one_pair (ordered_equal n) (ordered_equal v) none_pairs)) (fields_equal k ps))

  ordered_all_equal : (cs : Cns) → EqualAll cs (ordered_all cs)
  ordered_all_equal no_cons = none_all
  ordered_all_equal (con c cs) = one_all (ordered_equal c) (ordered_all_equal cs)

written_fields_equal : (k : Kd) (ps : Prs) → Equal (row k ps) (cats k (written_fields k ps))
written_fields_equal k no_pairs = same
written_fields_equal k (pair n v ps) = chain row_splits (in_cat same (written_fields_equal k ps))

written_cats : (k : Kd) (c : Cn) → Equal c (cats k (written_pieces c))
written_cats k (row l ps) = chain (written_fields_equal l ps) (kind_moves l k (written_fields l ps))
written_cats k (cat a b) = chain (in_cat (written_cats k a) (written_cats k b)) (cats_append k (written_pieces a) (written_pieces b))
written_cats k (var i) = back one
written_cats k (basic s) = back one
written_cats k (arrow a b) = back one
written_cats k (poly x l b) = back one
written_cats k (guarded a b c) = back one
written_cats k (record_of a) = back one
written_cats k (app a b) = back one
written_cats k (lambda l b) = back one
written_cats k unit_con = back one
written_cats k (name s) = back one
written_cats k (map_of l m) = back one
written_cats k (tuple cs) = back one
written_cats k (proj a n) = back one

-- a row is its pieces, as written, joined by ++
pub written_equal : (k : Kd) (c : Cn) → Equal c (joined k (written_pieces c))
written_equal k c = chain (written_cats k c) (joined_equal k (written_pieces c))
