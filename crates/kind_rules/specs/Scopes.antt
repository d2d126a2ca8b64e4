-- The empty scope, a scope with more basic names, and a guard as it is seen from under more binders.
use Rattle.std.specs.Prelude.{ℕ, List, [], ◌∷◌, ◌++◌}
use Rattle.con_terms.specs.Trees.{Kd, Cn}
use Rattle.con_terms.specs.Substitution.{shift}
use Rattle.con_terms.specs.Kinded.{Scope}

abbrev pub empty_scope : Scope
empty_scope = record { binders = []; guards = []; basics = [] }

-- the kinds of basic names, which count from then on, the first of a name before the later ones
abbrev pub with_basics : List (ℕ × Kd) → Scope → Scope
with_basics bs G = record { binders = G.binders; guards = G.guards; basics = bs ++ G.basics }

-- the kind of one basic name
abbrev pub with_basic : ℕ → Kd → Scope → Scope
with_basic s k G = record { binders = G.binders; guards = G.guards; basics = (s, k) ∷ G.basics }

-- both sides of a guard, seen from under so many binders
abbrev pub raised_by : ℕ → Cn × Cn → Cn × Cn
raised_by n g = (shift n g.0 0, shift n g.1 0)
