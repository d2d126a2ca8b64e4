use Rattle.std.proofs.Common.{◌≡◌, ◌+◌, ◌<◌, ◌≤◌, length, map, drop, refl, ap, sym, ◌∙◌, arith}
use Rattle.plain_tree.specs.ExpView as view
use Rattle.plain_tree.specs.declared.exp.Form.TheViews as views
use Rattle.unbound_names.specs.Terms.{behind_local, unbound_attributes, unbound_branch, unbound_branches, unbound_field, unbound_fields, unbound_given, unbound_group, unbound_item, unbound_items, unbound_link, unbound_links, unbound_local, unbound_locals, unbound_named, unbound_node, unbound_nodes}
use Rattle.unbound_names.specs.View.{around_view, ask_view}
use Rattle.unbound_names.proofs.Found.{found, passed, ended}
use Rattle.unbound_names.proofs.terms.+unbound_exp.Goals as goal

pub unbound_attributes-returns-then-branch : goal.unbound_attributes-returns-then-branch
unbound_attributes-returns-then-branch t c =
    let xs = (views.out-Attributes c.args.xs.now).items in
    let h : c.loop-i.i < length xs.items = omega (arith, xs.ok.0) in
    found (λ zs. unbound_attributes (ask_view c.args.q.now) (around_view c.args.s.now) (view.attributes_from (map view.attribute_tree zs)))
    xs.items c.loop-i.i c.index.result.now _ (unbound_given (ask_view c.args.q.now) (around_view c.args.s.now) (view.attribute_tree c.index.result.now))
    (unbound_attributes (ask_view c.args.q.now) (around_view c.args.s.now) (view.attributes_from (map view.attribute_tree (drop (c.loop-i.i + 1) xs.items))))
    h c.index.ensures c.loop-i.invariant refl (sym c.in_ok-unbound_given.ensures ∙ c.if-branch.true)

pub unbound_attributes-loop-i-preserved : goal.unbound_attributes-loop-i-preserved
unbound_attributes-loop-i-preserved t c =
    let xs = (views.out-Attributes c.args.xs.now).items in
    let h : c.loop-i.i < length xs.items = omega (arith, xs.ok.0) in
    passed (λ zs. unbound_attributes (ask_view c.args.q.now) (around_view c.args.s.now) (view.attributes_from (map view.attribute_tree zs)))
    xs.items c.loop-i.i c.index.result.now _ (unbound_given (ask_view c.args.q.now) (around_view c.args.s.now) (view.attribute_tree c.index.result.now))
    (unbound_attributes (ask_view c.args.q.now) (around_view c.args.s.now) (view.attributes_from (map view.attribute_tree (drop (c.loop-i.i + 1) xs.items))))
    h c.index.ensures c.loop-i.invariant refl (sym c.in_ok-unbound_given.ensures ∙ c.if-branch.false)

pub unbound_attributes-returns : goal.unbound_attributes-returns
unbound_attributes-returns t c =
    let xs = (views.out-Attributes c.args.xs.now).items in
    let h : length xs.items ≤ c.loop-i.i = omega (arith, xs.ok.0) in
    ended (λ zs. unbound_attributes (ask_view c.args.q.now) (around_view c.args.s.now) (view.attributes_from (map view.attribute_tree zs)))
    xs.items c.loop-i.i _ h c.loop-i.invariant refl

pub unbound_branches-returns-then-branch : goal.unbound_branches-returns-then-branch
unbound_branches-returns-then-branch t c =
    let xs = (views.out-Branches c.args.bs.now).items in
    let h : c.loop-i.i < length xs.items = omega (arith, xs.ok.0) in
    found (λ zs. unbound_branches (ask_view c.args.q.now) (around_view c.args.s.now) (view.branches_from (map view.branch_tree zs)))
    xs.items c.loop-i.i c.index.result.now _ (unbound_branch (ask_view c.args.q.now) (around_view c.args.s.now) (view.branch_tree c.index.result.now))
    (unbound_branches (ask_view c.args.q.now) (around_view c.args.s.now) (view.branches_from (map view.branch_tree (drop (c.loop-i.i + 1) xs.items))))
    h c.index.ensures c.loop-i.invariant refl (sym c.in_ok-unbound_branch.ensures ∙ c.if-branch.true)

pub unbound_branches-loop-i-preserved : goal.unbound_branches-loop-i-preserved
unbound_branches-loop-i-preserved t c =
    let xs = (views.out-Branches c.args.bs.now).items in
    let h : c.loop-i.i < length xs.items = omega (arith, xs.ok.0) in
    passed (λ zs. unbound_branches (ask_view c.args.q.now) (around_view c.args.s.now) (view.branches_from (map view.branch_tree zs)))
    xs.items c.loop-i.i c.index.result.now _ (unbound_branch (ask_view c.args.q.now) (around_view c.args.s.now) (view.branch_tree c.index.result.now))
    (unbound_branches (ask_view c.args.q.now) (around_view c.args.s.now) (view.branches_from (map view.branch_tree (drop (c.loop-i.i + 1) xs.items))))
    h c.index.ensures c.loop-i.invariant refl (sym c.in_ok-unbound_branch.ensures ∙ c.if-branch.false)

pub unbound_branches-returns : goal.unbound_branches-returns
unbound_branches-returns t c =
    let xs = (views.out-Branches c.args.bs.now).items in
    let h : length xs.items ≤ c.loop-i.i = omega (arith, xs.ok.0) in
    ended (λ zs. unbound_branches (ask_view c.args.q.now) (around_view c.args.s.now) (view.branches_from (map view.branch_tree zs)))
    xs.items c.loop-i.i _ h c.loop-i.invariant refl

pub unbound_fields-returns-then-branch : goal.unbound_fields-returns-then-branch
unbound_fields-returns-then-branch t c =
    let xs = (views.out-Fields c.args.fs.now).items in
    let h : c.loop-i.i < length xs.items = omega (arith, xs.ok.0) in
    found (λ zs. unbound_fields (ask_view c.args.q.now) (around_view c.args.s.now) (view.fields_from (map view.field_tree zs)))
    xs.items c.loop-i.i c.index.result.now _ (unbound_field (ask_view c.args.q.now) (around_view c.args.s.now) (view.field_tree c.index.result.now))
    (unbound_fields (ask_view c.args.q.now) (around_view c.args.s.now) (view.fields_from (map view.field_tree (drop (c.loop-i.i + 1) xs.items))))
    h c.index.ensures c.loop-i.invariant refl (sym c.in_ok-unbound_field.ensures ∙ c.if-branch.true)

pub unbound_fields-loop-i-preserved : goal.unbound_fields-loop-i-preserved
unbound_fields-loop-i-preserved t c =
    let xs = (views.out-Fields c.args.fs.now).items in
    let h : c.loop-i.i < length xs.items = omega (arith, xs.ok.0) in
    passed (λ zs. unbound_fields (ask_view c.args.q.now) (around_view c.args.s.now) (view.fields_from (map view.field_tree zs)))
    xs.items c.loop-i.i c.index.result.now _ (unbound_field (ask_view c.args.q.now) (around_view c.args.s.now) (view.field_tree c.index.result.now))
    (unbound_fields (ask_view c.args.q.now) (around_view c.args.s.now) (view.fields_from (map view.field_tree (drop (c.loop-i.i + 1) xs.items))))
    h c.index.ensures c.loop-i.invariant refl (sym c.in_ok-unbound_field.ensures ∙ c.if-branch.false)

pub unbound_fields-returns : goal.unbound_fields-returns
unbound_fields-returns t c =
    let xs = (views.out-Fields c.args.fs.now).items in
    let h : length xs.items ≤ c.loop-i.i = omega (arith, xs.ok.0) in
    ended (λ zs. unbound_fields (ask_view c.args.q.now) (around_view c.args.s.now) (view.fields_from (map view.field_tree zs)))
    xs.items c.loop-i.i _ h c.loop-i.invariant refl

pub unbound_group-returns-then-branch : goal.unbound_group-returns-then-branch
unbound_group-returns-then-branch t c =
    let xs = (views.out-NamedList c.args.ns.now).items in
    let h : c.loop-i.i < length xs.items = omega (arith, xs.ok.0) in
    found (λ zs. unbound_group (ask_view c.args.q.now) (around_view c.args.s.now) (view.named_list_from (map view.named_tree zs)))
    xs.items c.loop-i.i c.index.result.now _ (unbound_named (ask_view c.args.q.now) (around_view c.args.s.now) (view.named_tree c.index.result.now))
    (unbound_group (ask_view c.args.q.now) (around_view c.args.s.now) (view.named_list_from (map view.named_tree (drop (c.loop-i.i + 1) xs.items))))
    h c.index.ensures c.loop-i.invariant refl (sym c.in_ok-unbound_named.ensures ∙ c.if-branch.true)

pub unbound_group-loop-i-preserved : goal.unbound_group-loop-i-preserved
unbound_group-loop-i-preserved t c =
    let xs = (views.out-NamedList c.args.ns.now).items in
    let h : c.loop-i.i < length xs.items = omega (arith, xs.ok.0) in
    passed (λ zs. unbound_group (ask_view c.args.q.now) (around_view c.args.s.now) (view.named_list_from (map view.named_tree zs)))
    xs.items c.loop-i.i c.index.result.now _ (unbound_named (ask_view c.args.q.now) (around_view c.args.s.now) (view.named_tree c.index.result.now))
    (unbound_group (ask_view c.args.q.now) (around_view c.args.s.now) (view.named_list_from (map view.named_tree (drop (c.loop-i.i + 1) xs.items))))
    h c.index.ensures c.loop-i.invariant refl (sym c.in_ok-unbound_named.ensures ∙ c.if-branch.false)

pub unbound_group-returns : goal.unbound_group-returns
unbound_group-returns t c =
    let xs = (views.out-NamedList c.args.ns.now).items in
    let h : length xs.items ≤ c.loop-i.i = omega (arith, xs.ok.0) in
    ended (λ zs. unbound_group (ask_view c.args.q.now) (around_view c.args.s.now) (view.named_list_from (map view.named_tree zs)))
    xs.items c.loop-i.i _ h c.loop-i.invariant refl

pub unbound_items-returns-then-branch : goal.unbound_items-returns-then-branch
unbound_items-returns-then-branch t c =
    let xs = (views.out-Items c.args.is.now).items in
    let h : c.loop-i.i < length xs.items = omega (arith, xs.ok.0) in
    found (λ zs. unbound_items (ask_view c.args.q.now) (around_view c.args.s.now) (view.items_from (map view.item_tree zs)))
    xs.items c.loop-i.i c.index.result.now _ (unbound_item (ask_view c.args.q.now) (around_view c.args.s.now) (view.item_tree c.index.result.now))
    (unbound_items (ask_view c.args.q.now) (around_view c.args.s.now) (view.items_from (map view.item_tree (drop (c.loop-i.i + 1) xs.items))))
    h c.index.ensures c.loop-i.invariant refl (sym c.in_ok-unbound_item.ensures ∙ c.if-branch.true)

pub unbound_items-loop-i-preserved : goal.unbound_items-loop-i-preserved
unbound_items-loop-i-preserved t c =
    let xs = (views.out-Items c.args.is.now).items in
    let h : c.loop-i.i < length xs.items = omega (arith, xs.ok.0) in
    passed (λ zs. unbound_items (ask_view c.args.q.now) (around_view c.args.s.now) (view.items_from (map view.item_tree zs)))
    xs.items c.loop-i.i c.index.result.now _ (unbound_item (ask_view c.args.q.now) (around_view c.args.s.now) (view.item_tree c.index.result.now))
    (unbound_items (ask_view c.args.q.now) (around_view c.args.s.now) (view.items_from (map view.item_tree (drop (c.loop-i.i + 1) xs.items))))
    h c.index.ensures c.loop-i.invariant refl (sym c.in_ok-unbound_item.ensures ∙ c.if-branch.false)

pub unbound_items-returns : goal.unbound_items-returns
unbound_items-returns t c =
    let xs = (views.out-Items c.args.is.now).items in
    let h : length xs.items ≤ c.loop-i.i = omega (arith, xs.ok.0) in
    ended (λ zs. unbound_items (ask_view c.args.q.now) (around_view c.args.s.now) (view.items_from (map view.item_tree zs)))
    xs.items c.loop-i.i _ h c.loop-i.invariant refl

pub unbound_links-returns-then-branch : goal.unbound_links-returns-then-branch
unbound_links-returns-then-branch t c =
    let xs = (views.out-Links c.args.ls.now).items in
    let h : c.loop-i.i < length xs.items = omega (arith, xs.ok.0) in
    found (λ zs. unbound_links (ask_view c.args.q.now) (around_view c.args.s.now) (view.links_from (map view.link_tree zs)))
    xs.items c.loop-i.i c.index.result.now _ (unbound_link (ask_view c.args.q.now) (around_view c.args.s.now) (view.link_tree c.index.result.now))
    (unbound_links (ask_view c.args.q.now) (around_view c.args.s.now) (view.links_from (map view.link_tree (drop (c.loop-i.i + 1) xs.items))))
    h c.index.ensures c.loop-i.invariant refl (sym c.in_ok-unbound_link.ensures ∙ c.if-branch.true)

pub unbound_links-loop-i-preserved : goal.unbound_links-loop-i-preserved
unbound_links-loop-i-preserved t c =
    let xs = (views.out-Links c.args.ls.now).items in
    let h : c.loop-i.i < length xs.items = omega (arith, xs.ok.0) in
    passed (λ zs. unbound_links (ask_view c.args.q.now) (around_view c.args.s.now) (view.links_from (map view.link_tree zs)))
    xs.items c.loop-i.i c.index.result.now _ (unbound_link (ask_view c.args.q.now) (around_view c.args.s.now) (view.link_tree c.index.result.now))
    (unbound_links (ask_view c.args.q.now) (around_view c.args.s.now) (view.links_from (map view.link_tree (drop (c.loop-i.i + 1) xs.items))))
    h c.index.ensures c.loop-i.invariant refl (sym c.in_ok-unbound_link.ensures ∙ c.if-branch.false)

pub unbound_links-returns : goal.unbound_links-returns
unbound_links-returns t c =
    let xs = (views.out-Links c.args.ls.now).items in
    let h : length xs.items ≤ c.loop-i.i = omega (arith, xs.ok.0) in
    ended (λ zs. unbound_links (ask_view c.args.q.now) (around_view c.args.s.now) (view.links_from (map view.link_tree zs)))
    xs.items c.loop-i.i _ h c.loop-i.invariant refl

pub unbound_locals-returns-then-branch : goal.unbound_locals-returns-then-branch
unbound_locals-returns-then-branch t c =
    let xs = (views.out-Locals c.args.ls.now).items in
    let h : c.loop-i.i < length xs.items = omega (arith, xs.ok.0) in
    found (λ zs. unbound_locals (ask_view c.args.q.now) (around_view c.loop-i.here) (view.locals_from (map view.local_tree zs)))
    xs.items c.loop-i.i c.index-local.result.now _ (unbound_local (ask_view c.args.q.now) (around_view c.loop-i.here) (view.local_tree c.index-local.result.now))
    (unbound_locals (ask_view c.args.q.now) (behind_local (view.local_tree c.index-local.result.now) (around_view c.loop-i.here))
    (view.locals_from (map view.local_tree (drop (c.loop-i.i + 1) xs.items))))
    h c.index-local.ensures c.loop-i.invariant refl (sym c.in_ok-unbound_local.ensures ∙ c.if-branch.true)

pub unbound_locals-loop-i-preserved : goal.unbound_locals-loop-i-preserved
unbound_locals-loop-i-preserved t c =
    let xs = (views.out-Locals c.args.ls.now).items in
    let h : c.loop-i.i < length xs.items = omega (arith, xs.ok.0) in
    passed (λ zs. unbound_locals (ask_view c.args.q.now) (around_view c.loop-i.here) (view.locals_from (map view.local_tree zs)))
    xs.items c.loop-i.i c.index-local.result.now _ (unbound_local (ask_view c.args.q.now) (around_view c.loop-i.here) (view.local_tree c.index-local.result.now))
    (unbound_locals (ask_view c.args.q.now) (behind_local (view.local_tree c.index-local.result.now) (around_view c.loop-i.here))
    (view.locals_from (map view.local_tree (drop (c.loop-i.i + 1) xs.items))))
    h c.index-local.ensures c.loop-i.invariant refl (sym c.in_ok-unbound_local.ensures ∙ c.if-branch.false)
    ∙ ap (λ t. unbound_locals (ask_view c.args.q.now) t (view.locals_from (map view.local_tree (drop (c.loop-i.i + 1) xs.items))))
    (sym c.in_ok-here-2.ensures)

pub unbound_locals-returns : goal.unbound_locals-returns
unbound_locals-returns t c =
    let xs = (views.out-Locals c.args.ls.now).items in
    let h : length xs.items ≤ c.loop-i.i = omega (arith, xs.ok.0) in
    ended (λ zs. unbound_locals (ask_view c.args.q.now) (around_view c.loop-i.here) (view.locals_from (map view.local_tree zs)))
    xs.items c.loop-i.i _ h c.loop-i.invariant refl

pub unbound_nodes-returns-then-branch : goal.unbound_nodes-returns-then-branch
unbound_nodes-returns-then-branch t c =
    let xs = (views.out-Nodes c.args.ns.now).items in
    let h : c.loop-i.i < length xs.items = omega (arith, xs.ok.0) in
    found (λ zs. unbound_nodes (ask_view c.args.q.now) (around_view c.args.s.now) (view.nodes_from (map view.node_tree zs)))
    xs.items c.loop-i.i c.index.result.now _ (unbound_node (ask_view c.args.q.now) (around_view c.args.s.now) (view.node_tree c.index.result.now))
    (unbound_nodes (ask_view c.args.q.now) (around_view c.args.s.now) (view.nodes_from (map view.node_tree (drop (c.loop-i.i + 1) xs.items))))
    h c.index.ensures c.loop-i.invariant refl (sym c.in_ok-unbound_node.ensures ∙ c.if-branch.true)

pub unbound_nodes-loop-i-preserved : goal.unbound_nodes-loop-i-preserved
unbound_nodes-loop-i-preserved t c =
    let xs = (views.out-Nodes c.args.ns.now).items in
    let h : c.loop-i.i < length xs.items = omega (arith, xs.ok.0) in
    passed (λ zs. unbound_nodes (ask_view c.args.q.now) (around_view c.args.s.now) (view.nodes_from (map view.node_tree zs)))
    xs.items c.loop-i.i c.index.result.now _ (unbound_node (ask_view c.args.q.now) (around_view c.args.s.now) (view.node_tree c.index.result.now))
    (unbound_nodes (ask_view c.args.q.now) (around_view c.args.s.now) (view.nodes_from (map view.node_tree (drop (c.loop-i.i + 1) xs.items))))
    h c.index.ensures c.loop-i.invariant refl (sym c.in_ok-unbound_node.ensures ∙ c.if-branch.false)

pub unbound_nodes-returns : goal.unbound_nodes-returns
unbound_nodes-returns t c =
    let xs = (views.out-Nodes c.args.ns.now).items in
    let h : length xs.items ≤ c.loop-i.i = omega (arith, xs.ok.0) in
    ended (λ zs. unbound_nodes (ask_view c.args.q.now) (around_view c.args.s.now) (view.nodes_from (map view.node_tree zs)))
    xs.items c.loop-i.i _ h c.loop-i.invariant refl
