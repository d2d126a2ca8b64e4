use Rattle.std.proofs.Common.{◌∙◌, ap}
use Rattle.con_terms.specs.View.{con_tree}
use Rattle.con_terms.specs.Trees.{cat}
use Rattle.row_normal.specs.Ordered.{ordered}
use Rattle.core_terms.specs.Lists.{node_list, node_tree}
use Rattle.core_terms.specs.View.{nodes_tree}
use Rattle.type_faults.specs.View.{maybe_fault}
use Rattle.judgements.specs.View.{judged_tree, sc_view}
use Rattle.markup_rules.specs.Nodes.{one_node}
use Rattle.markup_rules.specs.View.{judgements_view, one_tree}
use Rattle.markup_rules.proofs.Loops.{forward_on, forward_stop}
use Rattle.markup_rules.proofs.nodes.going_forward.Goals as goal

pub returns-then-not-goes_on : goal.returns-then-not-goes_on
returns-then-not-goes_on c =
    let G = sc_view c.args.g.now c.args.s.now in
    let t = con_tree c.args.context.now in
    let u = con_tree c.loop-i.before in
    let x = node_tree c.at-node.result.now in
    let j = judged_tree c.at.result.now in
    forward_stop G t u (maybe_fault c.loop-i.told) (maybe_fault c.first-told.result) (node_list (nodes_tree c.args.nodes.now)) (judgements_view c.args.judged.now) c.loop-i.i x j
    c.loop-i.found.items c.push.new.self.items (one_tree c.in_ok-one.one) _ c.at-node.ensures c.at.ensures
    (c.in_ok-one.ensures ∙ ap (λ b. one_node G t u x j.type b) c.is_last-last.ensures) c.if-not-goes_on.true c.first-told.ensures c.in_ok-push.ensures.items c.loop-i.invariant

pub loop-i-preserved : goal.loop-i-preserved
loop-i-preserved c =
    let G = sc_view c.args.g.now c.args.s.now in
    let t = con_tree c.args.context.now in
    let u = con_tree c.loop-i.before in
    let x = node_tree c.at-node.result.now in
    let j = judged_tree c.at.result.now in
    forward_on G t u (con_tree c.in_ok-before-2.before) (maybe_fault c.loop-i.told) (maybe_fault c.first-told.result) (node_list (nodes_tree c.args.nodes.now)) (judgements_view c.args.judged.now) c.loop-i.i x j
    c.loop-i.found.items c.push.new.self.items (one_tree c.in_ok-one.one) _ c.at-node.ensures c.at.ensures
    (c.in_ok-one.ensures ∙ ap (λ b. one_node G t u x j.type b) c.is_last-last.ensures) c.if-not-goes_on.false c.first-told.ensures c.in_ok-push.ensures.items
    (c.in_ok-before-2.ensures ∙ ap (λ b. ordered (cat u b)) c.node_fills.ensures) c.loop-i.invariant
