use Rattle.std.proofs.Common.{◌≡◌, ◌≢◌, ◌<◌, ◌≤◌, ◌&&◌, length, ap, sym, ◌∙◌, arith}
use Rattle.core_terms.specs.declared.exp.Form.TheViews.{out-Nodes}
use Rattle.core_terms.specs.Lists.{node_tree}
use Rattle.core_terms.specs.Strip.{strip}
use Rattle.core_terms.specs.Trees.{Fo, Xs}
use Rattle.core_terms.specs.View.{form_tree}
use Rattle.plain_tree.specs.ConView as con_view
use Rattle.plain_tree.specs.ExpView as view
use Rattle.plain_tree.specs.declared.exp.Form.TheViews as plain
use Rattle.source_names.specs.View.{scope_view}
use Rattle.source_terms.specs.Leaves.{form_of}
use Rattle.source_terms.specs.Left.{left}
use Rattle.source_terms.specs.Parts.{reads_page_node}
use Rattle.source_terms.specs.Tasks.{all_read, at_content}
use Rattle.source_terms.specs.Terms.{reads_attributes, reads_element, reads_nodes}
use Rattle.source_terms.proofs.Nodes.{node_is}
use Rattle.source_terms.proofs.Written.{written_element_is}
use Rattle.source_terms.proofs.Listed.{nodes_whole}
use Rattle.source_terms.proofs.Pairs.{whole_begins, whole_differs, whole_fails, whole_goes_on, whole_ends}
use Rattle.source_terms.proofs.markup.+are_nodes.Goals as goal

pub are_nodes-loop-i-init : goal.are_nodes-loop-i-init
are_nodes-loop-i-init t c = whole_begins _ _ _ (nodes_whole (scope_view c.args.s.now) c.args.ns.now c.args.xs.now)

pub are_nodes-returns-then-len : goal.are_nodes-returns-then-len
are_nodes-returns-then-len t c =
    let xs = (plain.out-Nodes c.args.ns.now).items in
    let ys = (out-Nodes c.args.xs.now).items in
    let h : length xs.items ≢ length ys.items = (λ e. c.if-len.true (omega (arith, xs.ok.0, ys.ok.0))) in
    whole_differs _ xs.items ys.items _ _ h (nodes_whole (scope_view c.args.s.now) c.args.ns.now c.args.xs.now)

pub are_nodes-returns-then-not-branch : goal.are_nodes-returns-then-not-branch
are_nodes-returns-then-not-branch t c =
    let xs = (plain.out-Nodes c.args.ns.now).items in
    let ys = (out-Nodes c.args.xs.now).items in
    let one : c.loop-i.i < length xs.items = omega (arith, xs.ok.0) in
    let other : c.loop-i.i < length ys.items = omega (arith, xs.ok.0, ys.ok.0) in
    whole_fails _ xs.items ys.items c.loop-i.i _ _ _ _ _ _ one other c.index.ensures c.index-in-loop-i.ensures
    c.loop-i.invariant c.if-not-branch.true c.in_ok-is_node.ensures

pub are_nodes-loop-i-preserved : goal.are_nodes-loop-i-preserved
are_nodes-loop-i-preserved t c =
    let xs = (plain.out-Nodes c.args.ns.now).items in
    let ys = (out-Nodes c.args.xs.now).items in
    let one : c.loop-i.i < length xs.items = omega (arith, xs.ok.0) in
    let other : c.loop-i.i < length ys.items = omega (arith, xs.ok.0, ys.ok.0) in
    whole_goes_on _ xs.items ys.items c.loop-i.i _ _ _ _ _ _ one other c.index.ensures c.index-in-loop-i.ensures
    c.loop-i.invariant c.if-not-branch.false c.in_ok-is_node.ensures

pub are_nodes-returns : goal.are_nodes-returns
are_nodes-returns t c =
    let xs = (plain.out-Nodes c.args.ns.now).items in
    let ys = (out-Nodes c.args.xs.now).items in
    let one : length xs.items ≤ c.loop-i.i = omega (arith, xs.ok.0) in
    let other : length ys.items ≤ c.loop-i.i = omega (arith, xs.ok.0, ys.ok.0) in
    whole_ends _ xs.items ys.items c.loop-i.i _ _ one other c.loop-i.invariant

pub is_node-returns-in-None : goal.is_node-returns-in-None
is_node-returns-in-None t c =
    let s = scope_view c.args.s.now in
    let before = all_read c.args.tasks.now.items in
    let after = all_read c.content.new.tasks.items in
    let w = c.in-Element in
    let field = con_view.maybe_con w.field in
    let attributes = view.attributes_tree w.attributes in
    let test = λ (xs : Xs). reads_nodes s (view.nodes_tree w.nodes) xs in
    let reads = λ (f : Fo). reads_element s w.tag field (λ bs. reads_attributes s attributes bs) test f in
    let same : reads (left (form_tree c.standing-in-Element.result.now))
    ≡ reads_page_node s (view.node_tree c.args.n.now) (node_tree c.args.x.now) =
    ap reads c.standing-in-Element.ensures
    ∙ sym (ap (λ y. reads (form_of (strip y.1))) (node_is c.args.x.now))
    ∙ sym (ap (λ m. reads_page_node s m (node_tree c.args.x.now))
    (ap view.node_tree w.is ∙ written_element_is w.field-0 w.tag w.field w.attributes w.nodes)) in
    let found : (at_content c.in_ok-content-in-Element.field-0 test && after)
    ≡ (reads_page_node s (view.node_tree c.args.n.now) (node_tree c.args.x.now) && before) =
    c.in_ok-content-in-Element.ensures test ∙ ap (λ z. z && before) same in
    sym (ap (λ o. at_content o test && after) c.in-None.is) ∙ found

pub is_node-returns-in_ok-are_nodes-in-Some : goal.is_node-returns-in_ok-are_nodes-in-Some
is_node-returns-in_ok-are_nodes-in-Some t c =
    let s = scope_view c.args.s.now in
    let before = all_read c.args.tasks.now.items in
    let after = all_read c.content.new.tasks.items in
    let w = c.in-Element in
    let field = con_view.maybe_con w.field in
    let attributes = view.attributes_tree w.attributes in
    let test = λ (xs : Xs). reads_nodes s (view.nodes_tree w.nodes) xs in
    let reads = λ (f : Fo). reads_element s w.tag field (λ bs. reads_attributes s attributes bs) test f in
    let same : reads (left (form_tree c.standing-in-Element.result.now))
    ≡ reads_page_node s (view.node_tree c.args.n.now) (node_tree c.args.x.now) =
    ap reads c.standing-in-Element.ensures
    ∙ sym (ap (λ y. reads (form_of (strip y.1))) (node_is c.args.x.now))
    ∙ sym (ap (λ m. reads_page_node s m (node_tree c.args.x.now))
    (ap view.node_tree w.is ∙ written_element_is w.field-0 w.tag w.field w.attributes w.nodes)) in
    let found : (at_content c.in_ok-content-in-Element.field-0 test && after)
    ≡ (reads_page_node s (view.node_tree c.args.n.now) (node_tree c.args.x.now) && before) =
    c.in_ok-content-in-Element.ensures test ∙ ap (λ z. z && before) same in
    c.in_ok-are_nodes-in-Some.ensures ∙ sym (ap (λ o. at_content o test && after) c.in-Some.is) ∙ found
