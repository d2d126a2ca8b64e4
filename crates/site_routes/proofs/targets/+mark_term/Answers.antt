use Rattle.std.proofs.Common.{◌≡◌, ◌<◌, ◌≤◌, List, OnOk, length, map, refl, ap, sym, subst, ◌∙◌, arith}
use Rattle.core_terms.specs.Lists.{item_tree, local_tree, branch_tree, field_tree, attribute_tree, node_tree}
use Rattle.core_terms.specs.View.{exp_tree, named_tree, items_from, named_from, locals_from, branches_from, fields_from, attributes_from, nodes_from, exps_from}
use Rattle.core_terms.specs.declared.exp.Form.TheViews.{out-Items, out-NamedList, out-Locals, out-Branches, out-Fields, out-Attributes, out-Exps, out-Nodes}
use Rattle.core_typing.specs.Targets.{Target, targets, items_targets, named_targets, locals_targets, branches_targets, fields_targets, attributes_targets, nodes_targets, exps_targets}
use Rattle.site_routes.specs.Marking.{mark_all, item_targets, local_targets, attribute_targets}
use Rattle.site_routes.specs.View.{targets_view}
use Rattle.site_routes.proofs.Marks.{marked_on, marked_end}
use Rattle.site_routes.proofs.Members.{items_are, named_are, locals_are, branches_are, fields_are, attributes_are, nodes_are, exps_are, item_split, local_split, element_parts}
use Rattle.site_routes.proofs.targets.+mark_term.Goals as goal

pub mark_items-loop-i-preserved : goal.mark_items-loop-i-preserved
mark_items-loop-i-preserved t c =
    let xs = (out-Items c.args.is.now).items in
    let h : c.loop-i.i < length xs.items = omega (arith, xs.ok.0) in
    marked_on (λ ys. items_targets (items_from (map item_tree ys))) (λ x. item_targets (item_tree x)) (λ x ys. item_split (item_tree x) (items_from (map item_tree ys))) xs.items c.loop-i.i c.index.result.now
    (targets_view c.loop-i.targets) (targets_view c.mark_item.new.targets) _ c.index.ensures h c.in_ok-mark_item.ensures c.loop-i.invariant

pub mark_items-returns : goal.mark_items-returns
mark_items-returns t c =
    let xs = (out-Items c.args.is.now).items in
    let h : length xs.items ≤ c.loop-i.i = omega (arith, xs.ok.0) in
    marked_end (λ ys. items_targets (items_from (map item_tree ys))) refl xs.items c.loop-i.i (targets_view c.loop-i.targets) _ h c.loop-i.invariant
    ∙ ap (λ z. mark_all (items_targets z) (targets_view c.args.targets.now)) (sym (items_are c.args.is.now))

pub mark_named-loop-i-preserved : goal.mark_named-loop-i-preserved
mark_named-loop-i-preserved t c =
    let xs = (out-NamedList c.args.ns.now).items in
    let h : c.loop-i.i < length xs.items = omega (arith, xs.ok.0) in
    marked_on (λ ys. named_targets (named_from (map named_tree ys))) (λ x. targets (named_tree x).4) (λ x ys. refl) xs.items c.loop-i.i c.index.result.now
    (targets_view c.loop-i.targets) (targets_view c.mark_name.new.targets) _ c.index.ensures h c.in_ok-mark_name.ensures c.loop-i.invariant

pub mark_named-returns : goal.mark_named-returns
mark_named-returns t c =
    let xs = (out-NamedList c.args.ns.now).items in
    let h : length xs.items ≤ c.loop-i.i = omega (arith, xs.ok.0) in
    marked_end (λ ys. named_targets (named_from (map named_tree ys))) refl xs.items c.loop-i.i (targets_view c.loop-i.targets) _ h c.loop-i.invariant
    ∙ ap (λ z. mark_all (named_targets z) (targets_view c.args.targets.now)) (sym (named_are c.args.ns.now))

pub mark_locals-loop-i-preserved : goal.mark_locals-loop-i-preserved
mark_locals-loop-i-preserved t c =
    let xs = (out-Locals c.args.ls.now).items in
    let h : c.loop-i.i < length xs.items = omega (arith, xs.ok.0) in
    marked_on (λ ys. locals_targets (locals_from (map local_tree ys))) (λ x. local_targets (local_tree x)) (λ x ys. local_split (local_tree x) (locals_from (map local_tree ys))) xs.items c.loop-i.i c.index.result.now
    (targets_view c.loop-i.targets) (targets_view c.mark_local.new.targets) _ c.index.ensures h c.in_ok-mark_local.ensures c.loop-i.invariant

pub mark_locals-returns : goal.mark_locals-returns
mark_locals-returns t c =
    let xs = (out-Locals c.args.ls.now).items in
    let h : length xs.items ≤ c.loop-i.i = omega (arith, xs.ok.0) in
    marked_end (λ ys. locals_targets (locals_from (map local_tree ys))) refl xs.items c.loop-i.i (targets_view c.loop-i.targets) _ h c.loop-i.invariant
    ∙ ap (λ z. mark_all (locals_targets z) (targets_view c.args.targets.now)) (sym (locals_are c.args.ls.now))

pub mark_branches-loop-i-preserved : goal.mark_branches-loop-i-preserved
mark_branches-loop-i-preserved t c =
    let xs = (out-Branches c.args.bs.now).items in
    let h : c.loop-i.i < length xs.items = omega (arith, xs.ok.0) in
    marked_on (λ ys. branches_targets (branches_from (map branch_tree ys))) (λ x. targets (branch_tree x).2) (λ x ys. refl) xs.items c.loop-i.i c.index.result.now
    (targets_view c.loop-i.targets) (targets_view c.mark_branch.new.targets) _ c.index.ensures h c.in_ok-mark_branch.ensures c.loop-i.invariant

pub mark_branches-returns : goal.mark_branches-returns
mark_branches-returns t c =
    let xs = (out-Branches c.args.bs.now).items in
    let h : length xs.items ≤ c.loop-i.i = omega (arith, xs.ok.0) in
    marked_end (λ ys. branches_targets (branches_from (map branch_tree ys))) refl xs.items c.loop-i.i (targets_view c.loop-i.targets) _ h c.loop-i.invariant
    ∙ ap (λ z. mark_all (branches_targets z) (targets_view c.args.targets.now)) (sym (branches_are c.args.bs.now))

pub mark_fields-loop-i-preserved : goal.mark_fields-loop-i-preserved
mark_fields-loop-i-preserved t c =
    let xs = (out-Fields c.args.fs.now).items in
    let h : c.loop-i.i < length xs.items = omega (arith, xs.ok.0) in
    marked_on (λ ys. fields_targets (fields_from (map field_tree ys))) (λ x. targets (field_tree x).2) (λ x ys. refl) xs.items c.loop-i.i c.index.result.now
    (targets_view c.loop-i.targets) (targets_view c.mark_field.new.targets) _ c.index.ensures h c.in_ok-mark_field.ensures c.loop-i.invariant

pub mark_fields-returns : goal.mark_fields-returns
mark_fields-returns t c =
    let xs = (out-Fields c.args.fs.now).items in
    let h : length xs.items ≤ c.loop-i.i = omega (arith, xs.ok.0) in
    marked_end (λ ys. fields_targets (fields_from (map field_tree ys))) refl xs.items c.loop-i.i (targets_view c.loop-i.targets) _ h c.loop-i.invariant
    ∙ ap (λ z. mark_all (fields_targets z) (targets_view c.args.targets.now)) (sym (fields_are c.args.fs.now))

pub mark_attributes-loop-i-preserved : goal.mark_attributes-loop-i-preserved
mark_attributes-loop-i-preserved t c =
    let xs = (out-Attributes c.args.all.now).items in
    let h : c.loop-i.i < length xs.items = omega (arith, xs.ok.0) in
    marked_on (λ ys. attributes_targets (attributes_from (map attribute_tree ys))) (λ x. attribute_targets (attribute_tree x)) (λ x ys. refl) xs.items c.loop-i.i c.index.result.now
    (targets_view c.loop-i.targets) (targets_view c.mark_attribute.new.targets) _ c.index.ensures h c.in_ok-mark_attribute.ensures c.loop-i.invariant

pub mark_attributes-returns : goal.mark_attributes-returns
mark_attributes-returns t c =
    let xs = (out-Attributes c.args.all.now).items in
    let h : length xs.items ≤ c.loop-i.i = omega (arith, xs.ok.0) in
    marked_end (λ ys. attributes_targets (attributes_from (map attribute_tree ys))) refl xs.items c.loop-i.i (targets_view c.loop-i.targets) _ h c.loop-i.invariant
    ∙ ap (λ z. mark_all (attributes_targets z) (targets_view c.args.targets.now)) (sym (attributes_are c.args.all.now))

pub mark_nodes-loop-i-preserved : goal.mark_nodes-loop-i-preserved
mark_nodes-loop-i-preserved t c =
    let xs = (out-Nodes c.args.ns.now).items in
    let h : c.loop-i.i < length xs.items = omega (arith, xs.ok.0) in
    marked_on (λ ys. nodes_targets (nodes_from (map node_tree ys))) (λ x. targets (node_tree x).1) (λ x ys. refl) xs.items c.loop-i.i c.index.result.now
    (targets_view c.loop-i.targets) (targets_view c.mark_node.new.targets) _ c.index.ensures h c.in_ok-mark_node.ensures c.loop-i.invariant

pub mark_nodes-returns : goal.mark_nodes-returns
mark_nodes-returns t c =
    let xs = (out-Nodes c.args.ns.now).items in
    let h : length xs.items ≤ c.loop-i.i = omega (arith, xs.ok.0) in
    marked_end (λ ys. nodes_targets (nodes_from (map node_tree ys))) refl xs.items c.loop-i.i (targets_view c.loop-i.targets) _ h c.loop-i.invariant
    ∙ ap (λ z. mark_all (nodes_targets z) (targets_view c.args.targets.now)) (sym (nodes_are c.args.ns.now))

pub mark_terms-loop-i-preserved : goal.mark_terms-loop-i-preserved
mark_terms-loop-i-preserved t c =
    let xs = (out-Exps c.args.es.now).items in
    let h : c.loop-i.i < length xs.items = omega (arith, xs.ok.0) in
    marked_on (λ ys. exps_targets (exps_from (map exp_tree ys))) (λ x. targets (exp_tree x)) (λ x ys. refl) xs.items c.loop-i.i c.index.result.now
    (targets_view c.loop-i.targets) (targets_view c.mark_term.new.targets) _ c.index.ensures h c.in_ok-mark_term.ensures c.loop-i.invariant

pub mark_terms-returns : goal.mark_terms-returns
mark_terms-returns t c =
    let xs = (out-Exps c.args.es.now).items in
    let h : length xs.items ≤ c.loop-i.i = omega (arith, xs.ok.0) in
    marked_end (λ ys. exps_targets (exps_from (map exp_tree ys))) refl xs.items c.loop-i.i (targets_view c.loop-i.targets) _ h c.loop-i.invariant
    ∙ ap (λ z. mark_all (exps_targets z) (targets_view c.args.targets.now)) (sym (exps_are c.args.es.now))

pub mark_element-returns : goal.mark_element-returns
mark_element-returns t c =
    subst (λ (ts : List Target). OnOk c.mark_parts.result (targets_view c.mark_parts.new.targets ≡ mark_all ts (targets_view c.args.targets.now)))
    (sym (element_parts c.args.m.now)) c.mark_parts.ensures
