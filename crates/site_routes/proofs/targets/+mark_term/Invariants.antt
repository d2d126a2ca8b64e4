use Rattle.std.proofs.Common.{◌≡◌, ◌+◌, ◌*◌, map, drop}
use Rattle.core_terms.specs.Lists.{item_tree, local_tree, branch_tree, field_tree, attribute_tree, node_tree}
use Rattle.core_terms.specs.View.{exp_tree, named_tree, items_from, named_from, locals_from, branches_from, fields_from, attributes_from, nodes_from, exps_from}
use Rattle.core_terms.specs.declared.exp.Form.TheViews.{out-Items, out-NamedList, out-Locals, out-Branches, out-Fields, out-Attributes, out-Exps, out-Nodes}
use Rattle.core_typing.specs.Targets.{items_targets, named_targets, locals_targets, branches_targets, fields_targets, attributes_targets, nodes_targets, exps_targets}
use Rattle.site_routes.specs.Marking.{mark_all}
use Rattle.site_routes.specs.View.{targets_view}
use Rattle.site_routes.proofs.targets.+mark_term.Given as goal

abbrev pub decreases-mark_term : goal.decreases-mark_term
decreases-mark_term l = 8 * l.room

abbrev pub decreases-mark_form : goal.decreases-mark_form
decreases-mark_form l = 8 * l.room + 7

abbrev pub decreases-mark_call : goal.decreases-mark_call
decreases-mark_call l = 8 * l.room + 6

abbrev pub decreases-mark_let : goal.decreases-mark_let
decreases-mark_let l = 8 * l.room + 6

abbrev pub decreases-mark_case : goal.decreases-mark_case
decreases-mark_case l = 8 * l.room + 6

abbrev pub decreases-mark_two : goal.decreases-mark_two
decreases-mark_two l = 8 * l.room + 6

abbrev pub decreases-mark_first : goal.decreases-mark_first
decreases-mark_first l = 8 * l.room + 5

abbrev pub decreases-mark_element : goal.decreases-mark_element
decreases-mark_element l = 8 * l.room + 6

abbrev pub decreases-mark_parts : goal.decreases-mark_parts
decreases-mark_parts l = 8 * l.room + 5

abbrev pub decreases-mark_locals : goal.decreases-mark_locals
decreases-mark_locals l = 8 * l.room + 4

abbrev pub decreases-mark_local : goal.decreases-mark_local
decreases-mark_local l = 8 * l.room + 3

abbrev pub decreases-mark_named : goal.decreases-mark_named
decreases-mark_named l = 8 * l.room + 2

abbrev pub decreases-mark_name : goal.decreases-mark_name
decreases-mark_name l = 8 * l.room + 1

abbrev pub decreases-mark_items : goal.decreases-mark_items
decreases-mark_items l = 8 * l.room + 3

abbrev pub decreases-mark_item : goal.decreases-mark_item
decreases-mark_item l = 8 * l.room + 1

abbrev pub decreases-mark_attributes : goal.decreases-mark_attributes
decreases-mark_attributes l = 8 * l.room + 3

abbrev pub decreases-mark_attribute : goal.decreases-mark_attribute
decreases-mark_attribute l = 8 * l.room + 2

abbrev pub decreases-mark_nodes : goal.decreases-mark_nodes
decreases-mark_nodes l = 8 * l.room + 2

abbrev pub decreases-mark_node : goal.decreases-mark_node
decreases-mark_node l = 8 * l.room + 1

abbrev pub decreases-mark_terms : goal.decreases-mark_terms
decreases-mark_terms l = 8 * l.room + 1

abbrev pub decreases-mark_branches : goal.decreases-mark_branches
decreases-mark_branches l = 8 * l.room + 2

abbrev pub decreases-mark_branch : goal.decreases-mark_branch
decreases-mark_branch l = 8 * l.room + 1

abbrev pub decreases-mark_fields : goal.decreases-mark_fields
decreases-mark_fields l = 8 * l.room + 2

abbrev pub decreases-mark_field : goal.decreases-mark_field
decreases-mark_field l = 8 * l.room + 1

abbrev pub invariant-mark_items-loop-i : goal.invariant-mark_items-loop-i
invariant-mark_items-loop-i l =
    mark_all (items_targets (items_from (map item_tree (drop l.i (out-Items l.is).items.items)))) (targets_view l.targets)
    ≡ mark_all (items_targets (items_from (map item_tree (out-Items l.is).items.items))) (targets_view l.fn.targets)

abbrev pub invariant-mark_named-loop-i : goal.invariant-mark_named-loop-i
invariant-mark_named-loop-i l =
    mark_all (named_targets (named_from (map named_tree (drop l.i (out-NamedList l.ns).items.items)))) (targets_view l.targets)
    ≡ mark_all (named_targets (named_from (map named_tree (out-NamedList l.ns).items.items))) (targets_view l.fn.targets)

abbrev pub invariant-mark_locals-loop-i : goal.invariant-mark_locals-loop-i
invariant-mark_locals-loop-i l =
    mark_all (locals_targets (locals_from (map local_tree (drop l.i (out-Locals l.ls).items.items)))) (targets_view l.targets)
    ≡ mark_all (locals_targets (locals_from (map local_tree (out-Locals l.ls).items.items))) (targets_view l.fn.targets)

abbrev pub invariant-mark_branches-loop-i : goal.invariant-mark_branches-loop-i
invariant-mark_branches-loop-i l =
    mark_all (branches_targets (branches_from (map branch_tree (drop l.i (out-Branches l.bs).items.items)))) (targets_view l.targets)
    ≡ mark_all (branches_targets (branches_from (map branch_tree (out-Branches l.bs).items.items))) (targets_view l.fn.targets)

abbrev pub invariant-mark_fields-loop-i : goal.invariant-mark_fields-loop-i
invariant-mark_fields-loop-i l =
    mark_all (fields_targets (fields_from (map field_tree (drop l.i (out-Fields l.fs).items.items)))) (targets_view l.targets)
    ≡ mark_all (fields_targets (fields_from (map field_tree (out-Fields l.fs).items.items))) (targets_view l.fn.targets)

abbrev pub invariant-mark_attributes-loop-i : goal.invariant-mark_attributes-loop-i
invariant-mark_attributes-loop-i l =
    mark_all (attributes_targets (attributes_from (map attribute_tree (drop l.i (out-Attributes l.all).items.items)))) (targets_view l.targets)
    ≡ mark_all (attributes_targets (attributes_from (map attribute_tree (out-Attributes l.all).items.items))) (targets_view l.fn.targets)

abbrev pub invariant-mark_nodes-loop-i : goal.invariant-mark_nodes-loop-i
invariant-mark_nodes-loop-i l =
    mark_all (nodes_targets (nodes_from (map node_tree (drop l.i (out-Nodes l.ns).items.items)))) (targets_view l.targets)
    ≡ mark_all (nodes_targets (nodes_from (map node_tree (out-Nodes l.ns).items.items))) (targets_view l.fn.targets)

abbrev pub invariant-mark_terms-loop-i : goal.invariant-mark_terms-loop-i
invariant-mark_terms-loop-i l =
    mark_all (exps_targets (exps_from (map exp_tree (drop l.i (out-Exps l.es).items.items)))) (targets_view l.targets)
    ≡ mark_all (exps_targets (exps_from (map exp_tree (out-Exps l.es).items.items))) (targets_view l.fn.targets)
