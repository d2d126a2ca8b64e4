-- Nodes of markup, one after another.
use Rattle.std.specs.Prelude.{List, [], ◌∷◌}
use Rattle.plain_tree.specs.Trees.{NodeTree, node_run}
use Rattle.desugar_values.specs.Meanings.{MeaningTree, absent, a_word, several, group, a_kind, a_con, a_pat, an_exp, a_node, MeaningsTree, no_meaning, meaning}

-- a node that stands in no text
abbrev pub no_node : NodeTree
no_node = node_run 0 []

-- the node that a tree stands for
abbrev pub node_of : MeaningTree → NodeTree
node_of (a_node n) = n
node_of absent = no_node
node_of (a_word t) = no_node
node_of (several ms) = no_node
node_of (group ms) = no_node
node_of (a_kind x) = no_node
node_of (a_con s c) = no_node
node_of (a_pat s p) = no_node
node_of (an_exp s e) = no_node

-- the nodes that trees stand for
abbrev pub nodes_of : MeaningsTree → List NodeTree
nodes_of no_meaning = []
nodes_of (meaning m ms) = node_of m ∷ nodes_of ms
