-- Terms with projections behind them.
use Rattle.std.specs.Prelude.{ℕ, List, [], ◌∷◌}
use Rattle.plain_tree.specs.Trees.{ExpTree, exp, exp_chain, LinkTree, link_field}
use Rattle.plain_tree.specs.ExpView.{links_from}
use Rattle.desugar_values.specs.Meanings.{MeaningTree, MeaningsTree, no_meaning, meaning}
use Rattle.desugar_values.specs.Words.{field_name}

-- the projection on the field that stands behind a dot
abbrev pub dot_of : MeaningTree → LinkTree
dot_of m = link_field (field_name m)

-- the projections that dots are
abbrev pub dots_of : MeaningsTree → List LinkTree
dots_of no_meaning = []
dots_of (meaning m ms) = dot_of m ∷ dots_of ms

-- a term with projections behind it, as a chain
abbrev pub chain : ℕ → ExpTree → List LinkTree → ExpTree
chain start e ls = exp start (exp_chain e (links_from ls))

-- a term, whose tree begins at this byte, with projections behind it; without any it is the term itself
abbrev pub with_links : ℕ → ExpTree → List LinkTree → ExpTree
with_links start e [] = e
with_links start e (l ∷ ls) = chain start e (l ∷ ls)

-- a term, whose tree begins at this byte, with the projections of dots behind it
abbrev pub with_dots : ℕ → ExpTree → MeaningsTree → ExpTree
with_dots start e ms = with_links start e (dots_of ms)
