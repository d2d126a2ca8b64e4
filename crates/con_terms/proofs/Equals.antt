-- Equal constructors stay equal under shifts and substitutions.
use Rattle.std.proofs.Common.{◌≡◌, ℕ, zero, suc, ◌+◌, ◌<◌, List, [], ◌∷◌, Option, Some, None, option_map, slice_get, refl, ap, arith, ◌∙◌, sym, subst, Bool, true, false, nat_lt, if◌then◌else◌}
use Rattle.con_terms.specs.Trees.{Kd, Cn, var, basic, arrow, poly, guarded, record_of, app, lambda, unit_con, name, row, cat, map_of, tuple, proj, Cns, no_cons, con, con_list, Prs, no_pairs, pair}
use Rattle.con_terms.specs.Substitution.{replaced, replaced_all, replaced_pairs, shift, moved, subst_at, put}
use Rattle.con_terms.specs.Equal.{Equal, same, back, step, in_arrow, in_poly, in_guarded, in_record, in_app, in_lambda, in_row, in_cat, in_tuple, in_proj, beta, eta, projects, cat_swaps, cat_groups, cat_unit, row_splits, map_none, map_one, map_cat, map_identity, map_map, EqualAll, none_all, one_all, EqualPairs, none_pairs, one_pair}
use Rattle.con_terms.proofs.Walks.{shift_shift, shift_subst, subst_shift, subst_subst}

component_replaced : (f : ℕ → ℕ → Cn) (d : ℕ) (c : Cn) (cs : Cns) (n : ℕ) → slice_get (con_list cs) n ≡ Some c → slice_get (con_list (replaced_all f cs d)) n ≡ Some (replaced f c d)
component_replaced f d c cs n e = listed cs n ∙ ap (option_map (λ x. replaced f x d)) e
  where
    listed : (cs : Cns) (n : ℕ) → slice_get (con_list (replaced_all f cs d)) n ≡ option_map (λ x. replaced f x d) (slice_get (con_list cs) n)
    listed no_cons n = refl
    listed (con c cs) zero = refl
    listed (con c cs) (suc n) = listed cs n

moved_zero : (by from : ℕ) → moved by (from + 1) 0 ≡ var 0
moved_zero by from = grind arith

put_zero : (a : Cn) (n : ℕ) → put a (n + 1) 0 ≡ var 0
put_zero a n = grind arith

-- a fact along an equation at its right side
along : {c d e : Cn} → Equal c d → d ≡ e → Equal c e
along {c} h p = let P : Cn → Type 0 = λ x. Equal c x in subst P p h

mutual
  pub Equal_shift : {c d : Cn} → Equal c d → (by from : ℕ) → Equal (shift by c from) (shift by d from)
  Equal_shift same by from = same
  Equal_shift (back h) by from = back (Equal_shift h by from)
  Equal_shift (step h k) by from = step (Equal_shift h by from) (Equal_shift k by from)
  Equal_shift (in_arrow h k) by from = in_arrow (Equal_shift h by from) (Equal_shift k by from)
  Equal_shift (in_poly h) by from = in_poly (Equal_shift h by (from + 1))
  Equal_shift (in_guarded h k l) by from = in_guarded (Equal_shift h by from) (Equal_shift k by from) (Equal_shift l by from)
  Equal_shift (in_record h) by from = in_record (Equal_shift h by from)
  Equal_shift (in_app h k) by from = in_app (Equal_shift h by from) (Equal_shift k by from)
  Equal_shift (in_lambda h) by from = in_lambda (Equal_shift h by (from + 1))
  Equal_shift (in_row h) by from = in_row (EqualPairs_shift h by from)
  Equal_shift (in_cat h k) by from = in_cat (Equal_shift h by from) (Equal_shift k by from)
  Equal_shift (in_tuple h) by from = in_tuple (EqualAll_shift h by from)
  Equal_shift (in_proj h) by from = in_proj (Equal_shift h by from)
  Equal_shift (beta {k} {b} {a}) by from = along beta (sym (shift_subst by 0 from from a b (omega arith)))
  Equal_shift (eta {k} {f}) by from = rw (shift_shift by 1 0 (from + 1) from f (omega arith) (omega arith), moved_zero by from) eta
  Equal_shift (projects {c} {cs} {n} e) by from = projects (component_replaced (moved by) from c cs n e)
  Equal_shift cat_swaps by from = cat_swaps
  Equal_shift cat_groups by from = cat_groups
  Equal_shift cat_unit by from = cat_unit
  Equal_shift row_splits by from = row_splits
  Equal_shift map_none by from = map_none
  Equal_shift map_one by from = map_one
  Equal_shift map_cat by from = map_cat
  Equal_shift map_identity by from = rw (moved_zero by from) map_identity
  Equal_shift (map_map {f = f} {g = g}) by from =
      rw (shift_shift by 1 0 (from + 1) from f (omega arith) (omega arith), shift_shift by 1 0 (from + 1) from g (omega arith) (omega arith), moved_zero by from) map_map

  EqualAll_shift : {cs ds : Cns} → EqualAll cs ds → (by from : ℕ) → EqualAll (replaced_all (moved by) cs from) (replaced_all (moved by) ds from)
  EqualAll_shift none_all by from = none_all
  EqualAll_shift (one_all h k) by from = one_all (Equal_shift h by from) (EqualAll_shift k by from)

  EqualPairs_shift : {ps qs : Prs} → EqualPairs ps qs → (by from : ℕ) → EqualPairs (replaced_pairs (moved by) ps from) (replaced_pairs (moved by) qs from)
  EqualPairs_shift none_pairs by from = none_pairs
  EqualPairs_shift (one_pair h k l) by from = one_pair (Equal_shift h by from) (Equal_shift k by from) (EqualPairs_shift l by from)

mutual
  -- equal bodies
  pub Equal_subst_at : {c d : Cn} → Equal c d → (a : Cn) (n : ℕ) → Equal (subst_at a c n) (subst_at a d n)
  Equal_subst_at same a n = same
  Equal_subst_at (back h) a n = back (Equal_subst_at h a n)
  Equal_subst_at (step h k) a n = step (Equal_subst_at h a n) (Equal_subst_at k a n)
  Equal_subst_at (in_arrow h k) a n = in_arrow (Equal_subst_at h a n) (Equal_subst_at k a n)
  Equal_subst_at (in_poly h) a n = in_poly (Equal_subst_at h a (n + 1))
  Equal_subst_at (in_guarded h k l) a n = in_guarded (Equal_subst_at h a n) (Equal_subst_at k a n) (Equal_subst_at l a n)
  Equal_subst_at (in_record h) a n = in_record (Equal_subst_at h a n)
  Equal_subst_at (in_app h k) a n = in_app (Equal_subst_at h a n) (Equal_subst_at k a n)
  Equal_subst_at (in_lambda h) a n = in_lambda (Equal_subst_at h a (n + 1))
  Equal_subst_at (in_row h) a n = in_row (EqualPairs_subst h a n)
  Equal_subst_at (in_cat h k) a n = in_cat (Equal_subst_at h a n) (Equal_subst_at k a n)
  Equal_subst_at (in_tuple h) a n = in_tuple (EqualAll_subst h a n)
  Equal_subst_at (in_proj h) a n = in_proj (Equal_subst_at h a n)
  Equal_subst_at (beta {b = b} {a = x}) a n = along beta (sym (subst_subst 0 n n x a b (omega arith)))
  Equal_subst_at (eta {k} {f}) a n = rw (subst_shift 1 0 (n + 1) n a f (omega arith) (omega arith), put_zero a n) eta
  Equal_subst_at (projects {c = c} {cs = cs} {n = i} e) a n = projects (component_replaced (put a) n c cs i e)
  Equal_subst_at cat_swaps a n = cat_swaps
  Equal_subst_at cat_groups a n = cat_groups
  Equal_subst_at cat_unit a n = cat_unit
  Equal_subst_at row_splits a n = row_splits
  Equal_subst_at map_none a n = map_none
  Equal_subst_at map_one a n = map_one
  Equal_subst_at map_cat a n = map_cat
  Equal_subst_at map_identity a n = rw (put_zero a n) map_identity
  Equal_subst_at (map_map {f = f} {g = g}) a n =
      rw (subst_shift 1 0 (n + 1) n a f (omega arith) (omega arith), subst_shift 1 0 (n + 1) n a g (omega arith) (omega arith), put_zero a n) map_map

  EqualAll_subst : {cs ds : Cns} → EqualAll cs ds → (a : Cn) (n : ℕ) → EqualAll (replaced_all (put a) cs n) (replaced_all (put a) ds n)
  EqualAll_subst none_all a n = none_all
  EqualAll_subst (one_all h k) a n = one_all (Equal_subst_at h a n) (EqualAll_subst k a n)

  EqualPairs_subst : {ps qs : Prs} → EqualPairs ps qs → (a : Cn) (n : ℕ) → EqualPairs (replaced_pairs (put a) ps n) (replaced_pairs (put a) qs n)
  EqualPairs_subst none_pairs a n = none_pairs
  EqualPairs_subst (one_pair h k l) a n = one_pair (Equal_subst_at h a n) (Equal_subst_at k a n) (EqualPairs_subst l a n)

choose : {c d : Cn} (b : Bool) (x : Cn) → Equal c d → Equal (if b then x else c) (if b then x else d)
choose true x h = same
choose false x h = h

put_equal : {a b : Cn} → Equal a b → (n i : ℕ) → Equal (put a n i) (put b n i)
put_equal h n i = choose (nat_lt i n) (var i) (choose (nat_lt n i) _ (Equal_shift h n 0))

mutual
  -- equal arguments
  pub Equal_argument : {a b : Cn} → Equal a b → (c : Cn) (n : ℕ) → Equal (subst_at a c n) (subst_at b c n)
  Equal_argument h (var i) n = put_equal h n i
  Equal_argument h (basic s) n = same
  Equal_argument h (arrow c d) n = in_arrow (Equal_argument h c n) (Equal_argument h d n)
  Equal_argument h (poly x k c) n = in_poly (Equal_argument h c (n + 1))
  Equal_argument h (guarded c d e) n = in_guarded (Equal_argument h c n) (Equal_argument h d n) (Equal_argument h e n)
  Equal_argument h (record_of c) n = in_record (Equal_argument h c n)
  Equal_argument h (app c d) n = in_app (Equal_argument h c n) (Equal_argument h d n)
  Equal_argument h (lambda k c) n = in_lambda (Equal_argument h c (n + 1))
  Equal_argument h unit_con n = same
  Equal_argument h (name s) n = same
  Equal_argument h (row k ps) n = in_row (Equal_argument_pairs h ps n)
  Equal_argument h (cat c d) n = in_cat (Equal_argument h c n) (Equal_argument h d n)
  Equal_argument h (map_of k l) n = same
  Equal_argument h (tuple cs) n = in_tuple (Equal_argument_all h cs n)
  Equal_argument h (proj c x) n = in_proj (Equal_argument h c n)

  Equal_argument_all : {a b : Cn} → Equal a b → (cs : Cns) (n : ℕ) → EqualAll (replaced_all (put a) cs n) (replaced_all (put b) cs n)
  Equal_argument_all h no_cons n = none_all
  Equal_argument_all h (con c cs) n = one_all (Equal_argument h c n) (Equal_argument_all h cs n)

  Equal_argument_pairs : {a b : Cn} → Equal a b → (ps : Prs) (n : ℕ) → EqualPairs (replaced_pairs (put a) ps n) (replaced_pairs (put b) ps n)
  Equal_argument_pairs h no_pairs n = none_pairs
  Equal_argument_pairs h (pair x v ps) n = one_pair (Equal_argument h x n) (Equal_argument h v n) (Equal_argument_pairs h ps n)
