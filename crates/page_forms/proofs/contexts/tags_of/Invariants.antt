use Rattle.std.proofs.Common.{◌≡◌, ◌++◌, Some, map, drop}
use Rattle.page_forms.specs.Tags.{tags_of}
use Rattle.plain_tree.specs.ExpView.{node_tree, nodes_from, nodes_tree}
use Rattle.plain_tree.specs.declared.exp.Form.TheViews.{out-Nodes}
use Rattle.page_forms.proofs.contexts.tags_of.Given as goal

abbrev pub invariant-loop-i : goal.invariant-loop-i
invariant-loop-i l =
    tags_of (nodes_tree l.nodes)
    ≡ map Some l.tags.items ++ tags_of (nodes_from (map node_tree (drop l.i (out-Nodes l.nodes).items.items)))
