-- Which constructors have which kind.
-- The Ur/Web Manual, "Kinding".
use Rattle.std.specs.Prelude.{◌≡◌, ℕ, Bool, ◌==◌, List, [], ◌∷◌, Option, Some, None, slice_get, map, if◌then◌else◌}
use Rattle.con_terms.specs.Trees.{Kd, types, units, names, row_of, to, tuple_of, Kds, no_kinds, kind, kind_list, Cn, var, basic, arrow, poly, guarded, record_of, app, lambda, unit_con, name, row, cat, map_of, tuple, proj, Cns, no_cons, con, Prs, no_pairs, pair, names_of}
use Rattle.con_terms.specs.Substitution.{shift}
use Rattle.con_terms.specs.Apart.{Guards, Apart, PairwiseApart}

-- the kinds of the binders, the innermost first; the assumed guards; the kinds of the basic names
pub record Scope : Type 0 where
  pub binders : List Kd
  pub guards : Guards
  pub basics : List (ℕ × Kd)

-- the kind of a basic name, where the one put in last counts
abbrev pub basic_kind : List (ℕ × Kd) → ℕ → Option Kd
basic_kind [] s = None
basic_kind (b ∷ bs) s = if b.0 == s then Some b.1 else basic_kind bs s

-- the scope under one more binder: what stands in the guards is seen from under it
abbrev pub bind : Kd → Scope → Scope
bind k G = record {
  binders = k ∷ G.binders;
  guards = map (λ (g : Cn × Cn). (shift 1 g.0 0, shift 1 g.1 0)) G.guards;
  basics = G.basics;
}

-- the scope with one more guard
abbrev pub assume : Cn → Cn → Scope → Scope
assume a b G = record { binders = G.binders; guards = (a, b) ∷ G.guards; basics = G.basics }

-- G ⊢ c :: k
mutual
  pub data Kinded : Scope → Cn → Kd → Type 0 where
    -- a variable
    of_var : {G : Scope} {i : ℕ} {k : Kd}
        → slice_get G.binders i ≡ Some k
        → Kinded G (var i) k
    -- a basic name, as int
    of_basic : {G : Scope} {s : ℕ} {k : Kd}
        → basic_kind G.basics s ≡ Some k
        → Kinded G (basic s) k
    -- a -> b
    of_arrow : {G : Scope} {a b : Cn}
        → Kinded G a types
        → Kinded G b types
        → Kinded G (arrow a b) types
    -- x :: k -> b, and x ::: k -> b
    of_poly : {G : Scope} {x : Bool} {k : Kd} {b : Cn}
        → Kinded (bind k G) b types
        → Kinded G (poly x k b) types
    -- [a ~ b] => c
    of_guarded : {G : Scope} {a b c : Cn} {k l : Kd}
        → Kinded G a (row_of k)
        → Kinded G b (row_of l)
        → Kinded (assume a b G) c types
        → Kinded G (guarded a b c) types
    -- $a
    of_record : {G : Scope} {a : Cn}
        → Kinded G a (row_of types)
        → Kinded G (record_of a) types
    -- f a
    of_app : {G : Scope} {f a : Cn} {k l : Kd}
        → Kinded G f (to k l)
        → Kinded G a k
        → Kinded G (app f a) l
    -- fn x :: k => b
    of_lambda : {G : Scope} {k l : Kd} {b : Cn}
        → Kinded (bind k G) b l
        → Kinded G (lambda k b) (to k l)
    -- ()
    of_unit : {G : Scope}
        → Kinded G unit_con units
    -- #X
    of_name : {G : Scope} {s : ℕ}
        → Kinded G (name s) names
    -- [n = v, ..]
    of_row : {G : Scope} {k : Kd} {ps : Prs}
        → KindedPairs G ps k
        → PairwiseApart G.guards (names_of ps)
        → Kinded G (row k ps) (row_of k)
    -- a ++ b
    of_cat : {G : Scope} {a b : Cn} {k : Kd}
        → Kinded G a (row_of k)
        → Kinded G b (row_of k)
        → Apart G.guards a b
        → Kinded G (cat a b) (row_of k)
    -- map
    of_map : {G : Scope} {k l : Kd}
        → Kinded G (map_of k l) (to (to k l) (to (row_of k) (row_of l)))
    -- (c, ..)
    of_tuple : {G : Scope} {cs : Cns} {ks : Kds}
        → KindedAll G cs ks
        → Kinded G (tuple cs) (tuple_of ks)
    -- c.n
    of_proj : {G : Scope} {c : Cn} {ks : Kds} {n : ℕ} {k : Kd}
        → Kinded G c (tuple_of ks)
        → slice_get (kind_list ks) n ≡ Some k
        → Kinded G (proj c n) k

  -- a tuple's components have these kinds
  pub data KindedAll : Scope → Cns → Kds → Type 0 where
    no_components : {G : Scope}
        → KindedAll G no_cons no_kinds
    a_component : {G : Scope} {c : Cn} {cs : Cns} {k : Kd} {ks : Kds}
        → Kinded G c k
        → KindedAll G cs ks
        → KindedAll G (con c cs) (kind k ks)

  -- each field has a name, and a value of this kind
  pub data KindedPairs : Scope → Prs → Kd → Type 0 where
    no_fields : {G : Scope} {k : Kd}
        → KindedPairs G no_pairs k
    a_field : {G : Scope} {n v : Cn} {ps : Prs} {k : Kd}
        → Kinded G n names
        → Kinded G v k
        → KindedPairs G ps k
        → KindedPairs G (pair n v ps) k
