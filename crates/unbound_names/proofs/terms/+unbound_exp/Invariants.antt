use Rattle.std.proofs.Common.{◌≡◌, drop, map}
use Rattle.plain_tree.specs.ExpView as view
use Rattle.plain_tree.specs.declared.exp.Form.TheViews as views
use Rattle.unbound_names.specs.Terms.{unbound_items, unbound_branches, unbound_group, unbound_fields, unbound_links, unbound_nodes, unbound_attributes, unbound_locals}
use Rattle.unbound_names.specs.View.{around_view, ask_view}
use Rattle.unbound_names.proofs.terms.+unbound_exp.Given as goal

abbrev pub invariant-unbound_items-loop-i : goal.invariant-unbound_items-loop-i
invariant-unbound_items-loop-i l =
    unbound_items (ask_view l.q) (around_view l.s) (view.items_tree l.is)
    ≡ unbound_items (ask_view l.q) (around_view l.s)
    (view.items_from (map view.item_tree (drop l.i (views.out-Items l.is).items.items)))

abbrev pub invariant-unbound_branches-loop-i : goal.invariant-unbound_branches-loop-i
invariant-unbound_branches-loop-i l =
    unbound_branches (ask_view l.q) (around_view l.s) (view.branches_tree l.bs)
    ≡ unbound_branches (ask_view l.q) (around_view l.s)
    (view.branches_from (map view.branch_tree (drop l.i (views.out-Branches l.bs).items.items)))

abbrev pub invariant-unbound_group-loop-i : goal.invariant-unbound_group-loop-i
invariant-unbound_group-loop-i l =
    unbound_group (ask_view l.q) (around_view l.s) (view.named_list_tree l.ns)
    ≡ unbound_group (ask_view l.q) (around_view l.s)
    (view.named_list_from (map view.named_tree (drop l.i (views.out-NamedList l.ns).items.items)))

abbrev pub invariant-unbound_fields-loop-i : goal.invariant-unbound_fields-loop-i
invariant-unbound_fields-loop-i l =
    unbound_fields (ask_view l.q) (around_view l.s) (view.fields_tree l.fs)
    ≡ unbound_fields (ask_view l.q) (around_view l.s)
    (view.fields_from (map view.field_tree (drop l.i (views.out-Fields l.fs).items.items)))

abbrev pub invariant-unbound_links-loop-i : goal.invariant-unbound_links-loop-i
invariant-unbound_links-loop-i l =
    unbound_links (ask_view l.q) (around_view l.s) (view.links_tree l.ls)
    ≡ unbound_links (ask_view l.q) (around_view l.s)
    (view.links_from (map view.link_tree (drop l.i (views.out-Links l.ls).items.items)))

abbrev pub invariant-unbound_nodes-loop-i : goal.invariant-unbound_nodes-loop-i
invariant-unbound_nodes-loop-i l =
    unbound_nodes (ask_view l.q) (around_view l.s) (view.nodes_tree l.ns)
    ≡ unbound_nodes (ask_view l.q) (around_view l.s)
    (view.nodes_from (map view.node_tree (drop l.i (views.out-Nodes l.ns).items.items)))

abbrev pub invariant-unbound_attributes-loop-i : goal.invariant-unbound_attributes-loop-i
invariant-unbound_attributes-loop-i l =
    unbound_attributes (ask_view l.q) (around_view l.s) (view.attributes_tree l.xs)
    ≡ unbound_attributes (ask_view l.q) (around_view l.s)
    (view.attributes_from (map view.attribute_tree (drop l.i (views.out-Attributes l.xs).items.items)))

abbrev pub invariant-unbound_locals-loop-i : goal.invariant-unbound_locals-loop-i
invariant-unbound_locals-loop-i l =
    unbound_locals (ask_view l.q) (around_view l.s) (view.locals_tree l.ls)
    ≡ unbound_locals (ask_view l.q) (around_view l.here)
    (view.locals_from (map view.local_tree (drop l.i (views.out-Locals l.ls).items.items)))
