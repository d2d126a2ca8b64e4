-- What can be wrong with a constructor.
use Rattle.std.specs.Prelude.{ℕ, List, [], ◌∷◌}
use Rattle.con_terms.specs.Trees.{Kd, Cn, lambda}

pub data Flw : Type 0 where
  -- a variable or a basic name that isn't bound, by its number
  unbound_variable : ℕ → Flw
  unbound_basic : ℕ → Flw
  -- two kinds that differ: what was wanted, and what was found
  kinds_differ : Kd → Kd → Flw
  -- two pieces that aren't separated, closed by the binders under which they touch
  pieces_touch : Cn → Cn → Flw
  -- a comparison that is too large, or a constructor that is too deep
  too_large : Flw

-- a constructor closed by binders of these kinds, the outermost first: the function of what they bind
abbrev pub closed : List Kd → Cn → Cn
closed [] c = c
closed (k ∷ ks) c = lambda k (closed ks c)

-- A flaw found under a binder of this kind, as it is told outside of it: two pieces are closed by the binder, so that
-- they are constructors of the scope in which the whole stands. A leading fn always means such a binder, as a piece of
-- rows is no function.
abbrev pub closed_by : Kd → Flw → Flw
closed_by k (unbound_variable i) = unbound_variable i
closed_by k (unbound_basic s) = unbound_basic s
closed_by k (kinds_differ wanted found) = kinds_differ wanted found
closed_by k (pieces_touch p q) = pieces_touch (lambda k p) (lambda k q)
closed_by k too_large = too_large
