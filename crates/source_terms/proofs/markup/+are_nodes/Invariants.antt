use Rattle.std.proofs.Common.{◌≡◌, ◌&&◌, drop}
use Rattle.core_terms.specs.Lists.{node_tree}
use Rattle.core_terms.specs.Strip.{strip_nodes}
use Rattle.core_terms.specs.View.{nodes_tree}
use Rattle.core_terms.specs.declared.exp.Form.TheViews.{out-Nodes}
use Rattle.plain_tree.specs.ExpView as view
use Rattle.plain_tree.specs.declared.exp.Form.TheViews as plain
use Rattle.source_names.specs.View.{scope_view}
use Rattle.source_terms.specs.Parts.{reads_page_node}
use Rattle.source_terms.specs.Tasks.{all_read}
use Rattle.source_terms.specs.Terms.{reads_nodes}
use Rattle.source_terms.proofs.Pairs.{both}
use Rattle.source_terms.proofs.markup.+are_nodes.Given as goal

abbrev pub invariant-are_nodes-loop-i : goal.invariant-are_nodes-loop-i
invariant-are_nodes-loop-i l =
    (reads_nodes (scope_view l.s) (view.nodes_tree l.ns) (strip_nodes (nodes_tree l.xs))
    && all_read l.fn.tasks.items)
    ≡ (both (λ x y. reads_page_node (scope_view l.s) (view.node_tree x) (node_tree y))
    (drop l.i (plain.out-Nodes l.ns).items.items) (drop l.i (out-Nodes l.xs).items.items)
    && all_read l.tasks.items)
