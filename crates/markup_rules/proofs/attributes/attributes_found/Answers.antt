use Rattle.std.proofs.Common.{◌∙◌, ap}
use Rattle.con_terms.specs.View.{con_tree}
use Rattle.core_terms.specs.Lists.{attribute_list, attribute_tree}
use Rattle.core_terms.specs.View.{attributes_tree}
use Rattle.judgements.specs.View.{judged_tree, sc_view}
use Rattle.carried_types.specs.View.{carriers_view}
use Rattle.markup_rules.specs.Attributes.{with_told}
use Rattle.markup_rules.specs.View.{judgements_view, attributes_found_tree}
use Rattle.markup_rules.proofs.Loops.{attributes_on}
use Rattle.markup_rules.proofs.attributes.attributes_found.Goals as goal

pub loop-i-preserved : goal.loop-i-preserved
loop-i-preserved c =
    let bs = carriers_view c.args.all.now in
    let G = sc_view c.args.g.now c.args.s.now in
    let u = con_tree c.args.uses.now in
    let xs = attribute_list (attributes_tree c.args.attributes.now) in
    let js = judgements_view c.args.judged.now in
    let a = attribute_tree c.at-a.result.now in
    let j = judged_tree c.at.result.now in
    let now = attributes_found_tree c.loop-i.now in
    attributes_on bs G c.args.tag u xs js c.loop-i.i a j now (attributes_found_tree c.in_ok-now.now) _ c.at-a.ensures c.at.ensures
    (c.in_ok-now.ensures ∙ ap (λ s. with_told bs G c.args.tag u s a j.type now) c.second_told-second.ensures) c.loop-i.invariant
