-- What the trees of a run are as trees of a page, and how many nodes they were put together of.
use Rattle.std.specs.Prelude.{ℕ, suc, ◌+◌, List, [], ◌∷◌}
use Rattle.xml_trees.specs.Trees.{Trees, Nothing, Words, Element, trees_and, Built, built_and, ended}
use Rattle.value_trees.specs.Values.{Page, words, joined, element, nothing}
use Rattle.run_values.specs.View.{page_tree}
use Rattle.run_values.specs.declared.page.Tree.{Tree}
use Rattle.page_walk.specs.declared.trees.Todo.{Todo}

-- the trees in order
abbrev pub trees_in : Page → Trees
trees_in nothing = Nothing
trees_in (words t) = Words t Nothing
trees_in (joined p q) = trees_and (trees_in p) (trees_in q)
trees_in (element tag attrs p) = Element tag attrs (trees_in p) Nothing

-- the number of nodes below the first
abbrev pub below_in : Page → ℕ
below_in nothing = 0
below_in (words t) = 0
below_in (joined p q) = suc (below_in p) + suc (below_in q)
below_in (element tag attrs p) = suc (below_in p)

abbrev pub trees : Tree → Trees
trees t = trees_in (page_tree t)

-- the number of nodes
abbrev pub nodes : Tree → ℕ
nodes t = suc (below_in (page_tree t))

-- what is built once one thing more is done
abbrev pub done : Todo → Built → Built
done (Todo.Walk tree) b = built_and b (trees tree.now)
done Todo.End b = ended b

-- what is built once all that is still to be done is, the last first
abbrev pub all_done : List Todo → Built → Built
all_done [] b = b
all_done (t ∷ ts) b = done t (all_done ts b)

-- the number of nodes that are still to be walked
abbrev pub nodes_of : Todo → ℕ
nodes_of (Todo.Walk tree) = nodes tree.now
nodes_of Todo.End = 0

abbrev pub nodes_left : List Todo → ℕ
nodes_left [] = 0
nodes_left (t ∷ ts) = nodes_of t + nodes_left ts
