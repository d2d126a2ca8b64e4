-- How large a constructor is: its numbers, its binders, its depth.
use Rattle.std.specs.Prelude.{ℕ, suc, ◌<◌, ◌^◌, max}
use Rattle.con_terms.specs.Trees.{Kd, types, units, names, row_of, to, tuple_of, Kds, no_kinds, kind, Cn, var, basic, arrow, poly, guarded, record_of, app, lambda, unit_con, name, row, cat, map_of, tuple, proj, Cns, no_cons, con, Prs, no_pairs, pair}

-- the largest number of a variable, or 0
abbrev mutual
  pub top : Cn → ℕ
  top (var i) = i
  top (basic s) = 0
  top (arrow a b) = max (top a) (top b)
  top (poly x k b) = top b
  top (guarded a b c) = max (top a) (max (top b) (top c))
  top (record_of a) = top a
  top (app a b) = max (top a) (top b)
  top (lambda k b) = top b
  top unit_con = 0
  top (name s) = 0
  top (row k ps) = top_pairs ps
  top (cat a b) = max (top a) (top b)
  top (map_of k l) = 0
  top (tuple cs) = top_all cs
  top (proj a n) = top a

  pub top_all : Cns → ℕ
  top_all no_cons = 0
  top_all (con c cs) = max (top c) (top_all cs)

  pub top_pairs : Prs → ℕ
  top_pairs no_pairs = 0
  top_pairs (pair n v ps) = max (top n) (max (top v) (top_pairs ps))

-- how deep binders nest
abbrev mutual
  pub nest : Cn → ℕ
  nest (var i) = 0
  nest (basic s) = 0
  nest (arrow a b) = max (nest a) (nest b)
  nest (poly x k b) = suc (nest b)
  nest (guarded a b c) = max (nest a) (max (nest b) (nest c))
  nest (record_of a) = nest a
  nest (app a b) = max (nest a) (nest b)
  nest (lambda k b) = suc (nest b)
  nest unit_con = 0
  nest (name s) = 0
  nest (row k ps) = nest_pairs ps
  nest (cat a b) = max (nest a) (nest b)
  nest (map_of k l) = 0
  nest (tuple cs) = nest_all cs
  nest (proj a n) = nest a

  pub nest_all : Cns → ℕ
  nest_all no_cons = 0
  nest_all (con c cs) = max (nest c) (nest_all cs)

  pub nest_pairs : Prs → ℕ
  nest_pairs no_pairs = 0
  nest_pairs (pair n v ps) = max (nest n) (max (nest v) (nest_pairs ps))

-- room for a shift or a substitution: numbers and the nesting of binders below 2^31
pub record HasRoom (c : Cn) : Type 0 where
  pub numbers : top c < 2 ^ 31
  pub binders : nest c < 2 ^ 31

-- how many kinds stand one in another, a leaf counting as one
abbrev mutual
  pub kind_depth : Kd → ℕ
  kind_depth types = 1
  kind_depth units = 1
  kind_depth names = 1
  kind_depth (row_of k) = suc (kind_depth k)
  kind_depth (to k l) = suc (max (kind_depth k) (kind_depth l))
  kind_depth (tuple_of ks) = suc (kinds_depth ks)

  pub kinds_depth : Kds → ℕ
  kinds_depth no_kinds = 0
  kinds_depth (kind k ks) = max (kind_depth k) (kinds_depth ks)

-- how many constructors and kinds stand one in another, a leaf counting as one
abbrev mutual
  pub depth : Cn → ℕ
  depth (var i) = 1
  depth (basic s) = 1
  depth (arrow a b) = suc (max (depth a) (depth b))
  depth (poly x k b) = suc (max (kind_depth k) (depth b))
  depth (guarded a b c) = suc (max (depth a) (max (depth b) (depth c)))
  depth (record_of a) = suc (depth a)
  depth (app a b) = suc (max (depth a) (depth b))
  depth (lambda k b) = suc (max (kind_depth k) (depth b))
  depth unit_con = 1
  depth (name s) = 1
  depth (row k ps) = suc (max (kind_depth k) (depth_pairs ps))
  depth (cat a b) = suc (max (depth a) (depth b))
  depth (map_of k l) = suc (max (kind_depth k) (kind_depth l))
  depth (tuple cs) = suc (depth_all cs)
  depth (proj a n) = suc (depth a)

  pub depth_all : Cns → ℕ
  depth_all no_cons = 0
  depth_all (con c cs) = max (depth c) (depth_all cs)

  pub depth_pairs : Prs → ℕ
  depth_pairs no_pairs = 0
  depth_pairs (pair n v ps) = max (depth n) (max (depth v) (depth_pairs ps))
