use Rattle.std.proofs.Common.{◌≡◌, ◌+◌, map, drop, option_map}
use Rattle.guided_terms.specs.Contexts.{first_spliced}
use Rattle.plain_tree.specs.ExpView.{node_tree, nodes_from, nodes_tree}
use Rattle.plain_tree.specs.declared.exp.Form.TheViews.{out-Nodes}
use Rattle.page_forms.proofs.contexts.first_spliced.Given as goal

abbrev pub invariant-loop-i : goal.invariant-loop-i
invariant-loop-i l =
    first_spliced (nodes_tree l.nodes)
    ≡ option_map (λ k. l.i + k) (first_spliced (nodes_from (map node_tree (drop l.i (out-Nodes l.nodes).items.items))))
