-- What is still to be done for a page, with one thing more.
use Rattle.std.proofs.Common.{◌≡◌, ℕ, List, [], ◌∷◌, ◌++◌, ◌+◌, arith, refl, ap, ◌∙◌, Bor}
use Rattle.xml_trees.specs.Trees.{Nothing, Element, trees_and, Built, Within, built_and}
use Rattle.xml_trees.specs.declared.tag.Tag.{Tag}
use Rattle.xml_trees.specs.declared.attrs.Attr.{Attr}
use Rattle.page_walk.specs.declared.trees.Todo.{Todo}
use Rattle.run_values.specs.declared.page.Tree.{Tree}
use Rattle.page_walk.specs.Walked.{trees, nodes, done, all_done, nodes_of, nodes_left}
pub use Rattle.xml_trees.proofs.Growing.{built_and-nothing as nothing_more, built_and-and as trees_after}

-- the last thing is done first
pub last_is_first : (ts : List Todo) (t : Todo) (b : Built) → all_done (ts ++ t ∷ []) b ≡ all_done ts (done t b)
last_is_first [] t b = refl
last_is_first (s ∷ ts) t b = ap (done s) (last_is_first ts t b)

pub nodes_of_last : (ts : List Todo) (t : Todo) → nodes_left (ts ++ t ∷ []) ≡ nodes_left ts + nodes_of t
nodes_of_last [] t = omega arith
nodes_of_last (s ∷ ts) t = ap (λ (n : ℕ). nodes_of s + n) (nodes_of_last ts t) ∙ omega arith

-- two trees, the first before the second
pub joined : (ts : List Todo) (x y : Bor Tree) (b : Built)
    → all_done ((ts ++ Todo.Walk y ∷ []) ++ Todo.Walk x ∷ []) b ≡ all_done ts (built_and b (trees_and (trees x.now) (trees y.now)))
joined ts x y b = last_is_first (ts ++ Todo.Walk y ∷ []) (Todo.Walk x) b
    ∙ last_is_first ts (Todo.Walk y) (built_and b (trees x.now))
    ∙ ap (all_done ts) (trees_after b (trees x.now) (trees y.now))

pub joined_nodes : (ts : List Todo) (x y : Bor Tree)
    → nodes_left ((ts ++ Todo.Walk y ∷ []) ++ Todo.Walk x ∷ []) ≡ nodes_left ts + (nodes x.now + nodes y.now)
joined_nodes ts x y = omega (arith, nodes_of_last (ts ++ Todo.Walk y ∷ []) (Todo.Walk x), nodes_of_last ts (Todo.Walk y))

-- what is in an element, and then its end
pub inside : (ts : List Todo) (x : Bor Tree) (b : Built) (tag : Tag) (attrs : List Attr)
    → all_done ((ts ++ Todo.End ∷ []) ++ Todo.Walk x ∷ []) (Within b tag attrs Nothing)
    ≡ all_done ts (built_and b (Element tag attrs (trees x.now) Nothing))
inside ts x b tag attrs = last_is_first (ts ++ Todo.End ∷ []) (Todo.Walk x) (Within b tag attrs Nothing)
    ∙ last_is_first ts Todo.End (built_and (Within b tag attrs Nothing) (trees x.now))

pub inside_nodes : (ts : List Todo) (x : Bor Tree)
    → nodes_left ((ts ++ Todo.End ∷ []) ++ Todo.Walk x ∷ []) ≡ nodes_left ts + nodes x.now
inside_nodes ts x = omega (arith, nodes_of_last (ts ++ Todo.End ∷ []) (Todo.Walk x), nodes_of_last ts Todo.End)
