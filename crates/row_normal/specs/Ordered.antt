-- Rows with their pieces in order: literal names by their symbols' numbers, then variables, outer binders first,
-- then other pieces by their trees.
use Rattle.std.specs.Prelude.{ℕ, suc, ◌-◌, ◌^◌, Bool, true, false, List, [], ◌∷◌, ◌++◌, if◌then◌else◌}
use Rattle.std.specs.Ordering.{is_lt, nat_cmp}
use Rattle.std.specs.Cmp.Lexicographic.{slice_cmp}
use Rattle.con_terms.specs.Trees.{Kd, types, units, names, row_of, to, tuple_of, Kds, no_kinds, kind, Cn, var, basic, arrow, poly, guarded, record_of, app, lambda, unit_con, name, row, cat, map_of, tuple, proj, Cns, no_cons, con, Prs, no_pairs, pair}
use Rattle.con_terms.specs.Same.{kd_eq}

-- A tree as numbers, node by node from the left: the form's place in the list of forms, then its numbers and parts,
-- a list by its length and then its elements. Trees are compared by these numbers.
abbrev mutual
  pub kind_code : Kd → List ℕ
  kind_code types = 0 ∷ []
  kind_code units = 1 ∷ []
  kind_code names = 2 ∷ []
  kind_code (row_of k) = 3 ∷ kind_code k
  kind_code (to k l) = 4 ∷ kind_code k ++ kind_code l
  kind_code (tuple_of ks) = 5 ∷ kinds_count ks ∷ kinds_code ks

  pub kinds_code : Kds → List ℕ
  kinds_code no_kinds = []
  kinds_code (kind k ks) = kind_code k ++ kinds_code ks

  pub kinds_count : Kds → ℕ
  kinds_count no_kinds = 0
  kinds_count (kind k ks) = suc (kinds_count ks)

-- false before true
abbrev pub flag_code : Bool → ℕ
flag_code false = 0
flag_code true = 1

abbrev mutual
  pub con_code : Cn → List ℕ
  con_code (var i) = 0 ∷ i ∷ []
  con_code (basic s) = 1 ∷ s ∷ []
  con_code (arrow a b) = 2 ∷ con_code a ++ con_code b
  con_code (poly x k b) = 3 ∷ flag_code x ∷ kind_code k ++ con_code b
  con_code (guarded a b c) = 4 ∷ con_code a ++ con_code b ++ con_code c
  con_code (record_of a) = 5 ∷ con_code a
  con_code (app a b) = 6 ∷ con_code a ++ con_code b
  con_code (lambda k b) = 7 ∷ kind_code k ++ con_code b
  con_code unit_con = 8 ∷ []
  con_code (name s) = 9 ∷ s ∷ []
  con_code (row k ps) = 10 ∷ kind_code k ++ pairs_count ps ∷ pairs_code ps
  con_code (cat a b) = 11 ∷ con_code a ++ con_code b
  con_code (map_of k l) = 12 ∷ kind_code k ++ kind_code l
  con_code (tuple cs) = 13 ∷ cons_count cs ∷ cons_code cs
  con_code (proj a n) = 14 ∷ con_code a ++ n ∷ []

  pub cons_code : Cns → List ℕ
  cons_code no_cons = []
  cons_code (con c cs) = con_code c ++ cons_code cs

  pub cons_count : Cns → ℕ
  cons_count no_cons = 0
  cons_count (con c cs) = suc (cons_count cs)

  pub pairs_code : Prs → List ℕ
  pairs_code no_pairs = []
  pairs_code (pair n v ps) = con_code n ++ con_code v ++ pairs_code ps

  pub pairs_count : Prs → ℕ
  pairs_count no_pairs = 0
  pairs_count (pair n v ps) = suc (pairs_count ps)

-- literal names by their symbols' numbers, then variables, outer binders first, then other pieces
abbrev pub piece_rank : Cn → List ℕ
piece_rank (row k (pair (name s) v no_pairs)) = 0 ∷ s ∷ []
piece_rank (var i) = 1 ∷ (2 ^ 32 - i) ∷ []
piece_rank c = 2 ∷ []

-- by what a piece is placed: its rank, and then its tree
abbrev pub piece_key : Cn → List ℕ
piece_key c = piece_rank c ++ con_code c

-- whether p comes before q
abbrev pub before : Cn → Cn → Bool
before p q = is_lt (slice_cmp nat_cmp (piece_key p) (piece_key q))

-- p put in where it belongs
abbrev pub insert : Cn → List Cn → List Cn
insert p [] = p ∷ []
insert p (q ∷ qs) = if before q p then q ∷ insert p qs else p ∷ q ∷ qs

-- the pieces in order
abbrev pub sorted : List Cn → List Cn
sorted [] = []
sorted (p ∷ ps) = insert p (sorted ps)

-- the fields of the leading literals that have one field with a literal name, and this kind
abbrev pub leading_fields : Kd → List Cn → Prs
leading_fields k (row l (pair (name s) v no_pairs) ∷ ps) =
    if kd_eq k l then pair (name s) v (leading_fields k ps) else no_pairs
leading_fields k _ = no_pairs

-- what follows them
abbrev pub after_leading : Kd → List Cn → List Cn
after_leading k (row l (pair (name s) v no_pairs) ∷ ps) =
    if kd_eq k l then after_leading k ps else row l (pair (name s) v no_pairs) ∷ ps
after_leading k ps = ps

-- the pieces, of which the leading fields with literal names are one literal
abbrev pub glued : List Cn → List Cn
glued (row k (pair (name s) v no_pairs) ∷ ps) = row k (pair (name s) v (leading_fields k ps)) ∷ after_leading k ps
glued ps = ps

-- the pieces joined by ++, or the empty literal
abbrev pub joined : Kd → List Cn → Cn
joined k [] = row k no_pairs
joined k (p ∷ []) = p
joined k (p ∷ q ∷ ps) = cat p (joined k (q ∷ ps))

-- the kind of the first piece, where that is a literal
abbrev pub first_kind : Cn → Kd
first_kind (row k ps) = k
first_kind (cat a b) = first_kind a
first_kind _ = types

abbrev mutual
  -- the constructor with the pieces of each row in order
  pub ordered : Cn → Cn
  ordered (var i) = var i
  ordered (basic s) = basic s
  ordered (arrow a b) = arrow (ordered a) (ordered b)
  ordered (poly x k b) = poly x k (ordered b)
  ordered (guarded a b c) = guarded (ordered a) (ordered b) (ordered c)
  ordered (record_of a) = record_of (ordered a)
  ordered (app a b) = app (ordered a) (ordered b)
  ordered (lambda k b) = lambda k (ordered b)
  ordered unit_con = unit_con
  ordered (name s) = name s
  ordered (row k ps) = joined k (glued (sorted (field_pieces k ps)))
  ordered (cat a b) = joined (first_kind a) (glued (sorted (ordered_pieces a ++ ordered_pieces b)))
  ordered (map_of k l) = map_of k l
  ordered (tuple cs) = tuple (ordered_all cs)
  ordered (proj a n) = proj (ordered a) n

  -- the pieces of a row, as written: each field is one
  pub ordered_pieces : Cn → List Cn
  ordered_pieces (row k ps) = field_pieces k ps
  ordered_pieces (cat a b) = ordered_pieces a ++ ordered_pieces b
  ordered_pieces (var i) = var i ∷ []
  ordered_pieces (basic s) = basic s ∷ []
  ordered_pieces (arrow a b) = arrow (ordered a) (ordered b) ∷ []
  ordered_pieces (poly x k b) = poly x k (ordered b) ∷ []
  ordered_pieces (guarded a b c) = guarded (ordered a) (ordered b) (ordered c) ∷ []
  ordered_pieces (record_of a) = record_of (ordered a) ∷ []
  ordered_pieces (app a b) = app (ordered a) (ordered b) ∷ []
  ordered_pieces (lambda k b) = lambda k (ordered b) ∷ []
  ordered_pieces unit_con = unit_con ∷ []
  ordered_pieces (name s) = name s ∷ []
  ordered_pieces (map_of k l) = map_of k l ∷ []
  ordered_pieces (tuple cs) = tuple (ordered_all cs) ∷ []
  ordered_pieces (proj a n) = proj (ordered a) n ∷ []

  pub field_pieces : Kd → Prs → List Cn
  field_pieces k no_pairs = []
  field_pieces k (pair n v ps) = row k (pair (ordered n) (ordered v) no_pairs) ∷ field_pieces k ps

  pub ordered_all : Cns → Cns
  ordered_all no_cons = no_cons
  ordered_all (con c cs) = con (ordered c) (ordered_all cs)
