-- Which constructors are equal: the least congruence with these laws.
-- The Ur/Web Manual, "Definitional Equality".
use Rattle.std.specs.Prelude.{◌≡◌, ℕ, Bool, Some, slice_get}
use Rattle.con_terms.specs.Trees.{Kd, Cn, var, arrow, poly, guarded, record_of, app, lambda, row, cat, map_of, tuple, proj, Cns, no_cons, con, con_list, Prs, no_pairs, pair}
use Rattle.con_terms.specs.Substitution.{shift, subst}

-- fn x :: k => x
abbrev pub identity : Kd → Cn
identity k = lambda k (var 0)

-- fn x :: k => f (g x)
abbrev pub after : Kd → Cn → Cn → Cn
after k f g = lambda k (app (shift 1 f 0) (app (shift 1 g 0) (var 0)))

-- map f r
abbrev pub mapped : Kd → Kd → Cn → Cn → Cn
mapped k l f r = app (app (map_of k l) f) r

mutual
  pub data Equal : Cn → Cn → Type 0 where
    -- an equivalence
    same : {c : Cn} → Equal c c
    back : {c d : Cn}
        → Equal c d
        → Equal d c
    step : {c d e : Cn}
        → Equal c d
        → Equal d e
        → Equal c e
    -- in each part
    in_arrow : {a b a' b' : Cn}
        → Equal a a'
        → Equal b b'
        → Equal (arrow a b) (arrow a' b')
    in_poly : {x : Bool} {k : Kd} {b b' : Cn}
        → Equal b b'
        → Equal (poly x k b) (poly x k b')
    in_guarded : {a b c a' b' c' : Cn}
        → Equal a a'
        → Equal b b'
        → Equal c c'
        → Equal (guarded a b c) (guarded a' b' c')
    in_record : {a a' : Cn}
        → Equal a a'
        → Equal (record_of a) (record_of a')
    in_app : {a b a' b' : Cn}
        → Equal a a'
        → Equal b b'
        → Equal (app a b) (app a' b')
    in_lambda : {k : Kd} {b b' : Cn}
        → Equal b b'
        → Equal (lambda k b) (lambda k b')
    in_row : {k : Kd} {ps qs : Prs}
        → EqualPairs ps qs
        → Equal (row k ps) (row k qs)
    in_cat : {a b a' b' : Cn}
        → Equal a a'
        → Equal b b'
        → Equal (cat a b) (cat a' b')
    in_tuple : {cs ds : Cns}
        → EqualAll cs ds
        → Equal (tuple cs) (tuple ds)
    in_proj : {a a' : Cn} {n : ℕ}
        → Equal a a'
        → Equal (proj a n) (proj a' n)
    -- functions and tuples
    -- (fn x :: k => b) a is b with a for x
    beta : {k : Kd} {b a : Cn} → Equal (app (lambda k b) a) (subst b a)
    -- fn x :: k => f x is f
    eta : {k : Kd} {f : Cn} → Equal (lambda k (app (shift 1 f 0) (var 0))) f
    -- (c, ..).n is the component n
    projects : {c : Cn} {cs : Cns} {n : ℕ}
        → slice_get (con_list cs) n ≡ Some c
        → Equal (proj (tuple cs) n) c
    -- rows: ++ is commutative and associative with unit [], and a literal is its fields joined by ++
    -- a ++ b is b ++ a
    cat_swaps : {a b : Cn} → Equal (cat a b) (cat b a)
    -- (a ++ b) ++ c is a ++ (b ++ c)
    cat_groups : {a b c : Cn} → Equal (cat (cat a b) c) (cat a (cat b c))
    -- [] ++ a is a
    cat_unit : {k : Kd} {a : Cn} → Equal (cat (row k no_pairs) a) a
    -- [n = v, ..] is [n = v] ++ [..]
    row_splits : {k : Kd} {n v : Cn} {ps : Prs}
        → Equal (row k (pair n v ps)) (cat (row k (pair n v no_pairs)) (row k ps))
    -- map: of [], of one field, over ++, by the identity, of a map
    -- map f [] is []
    map_none : {k l : Kd} {f : Cn} → Equal (mapped k l f (row k no_pairs)) (row l no_pairs)
    -- map f [n = v] is [n = f v]
    map_one : {k l : Kd} {f n v : Cn}
        → Equal (mapped k l f (row k (pair n v no_pairs))) (row l (pair n (app f v) no_pairs))
    -- map f (a ++ b) is map f a ++ map f b
    map_cat : {k l : Kd} {f a b : Cn} → Equal (mapped k l f (cat a b)) (cat (mapped k l f a) (mapped k l f b))
    -- map (fn x => x) a is a
    map_identity : {k : Kd} {a : Cn} → Equal (mapped k k (identity k) a) a
    -- map f (map g a) is map (fn x => f (g x)) a
    map_map : {k l m : Kd} {f g a : Cn} → Equal (mapped l m f (mapped k l g a)) (mapped k m (after k f g) a)

  -- equal one by one
  pub data EqualAll : Cns → Cns → Type 0 where
    none_all : EqualAll no_cons no_cons
    one_all : {c d : Cn} {cs ds : Cns}
        → Equal c d
        → EqualAll cs ds
        → EqualAll (con c cs) (con d ds)

  -- equal field by field
  pub data EqualPairs : Prs → Prs → Type 0 where
    none_pairs : EqualPairs no_pairs no_pairs
    one_pair : {n v n' v' : Cn} {ps qs : Prs}
        → Equal n n'
        → Equal v v'
        → EqualPairs ps qs
        → EqualPairs (pair n v ps) (pair n' v' qs)
