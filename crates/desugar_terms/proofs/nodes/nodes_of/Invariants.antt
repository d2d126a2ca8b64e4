use Rattle.std.proofs.Common.{◌≡◌, ◌++◌, map}
use Rattle.plain_tree.specs.ExpView.{node_tree}
use Rattle.desugar_values.specs.View.{meaning_tree, meanings_from, meanings_tree}
use Rattle.desugar_terms.specs.Nodes.{nodes_of}
use Rattle.desugar_terms.proofs.nodes.nodes_of.Given as goal

abbrev pub invariant-loop-node : goal.invariant-loop-node
invariant-loop-node l =
    map node_tree l.nodes.items ++ nodes_of (meanings_from (map meaning_tree l.node-iterator.rest.items))
    ≡ nodes_of (meanings_tree l.fn.several)
