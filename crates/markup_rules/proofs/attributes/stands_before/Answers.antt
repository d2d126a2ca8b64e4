use Rattle.std.proofs.Common.{◌≡◌, ◌<◌, ◌∙◌, ap, sym, true, false, arith}
use Rattle.core_terms.specs.Lists.{attribute_list, attribute_tree}
use Rattle.core_terms.specs.View.{attributes_tree}
use Rattle.markup_rules.specs.Attributes.{same_name}
use Rattle.markup_rules.proofs.Loops.{among_next, among_stop}
use Rattle.markup_rules.proofs.attributes.stands_before.Goals as goal

pub returns-then-same_name : goal.returns-then-same_name
returns-then-same_name c =
    let xs = attribute_list (attributes_tree c.args.attributes.now) in
    let a = attribute_tree c.at.result.now in
    let h : same_name a.1 c.args.name ≡ true = ap (λ n. same_name n c.args.name) (sym c.attribute_name.ensures) ∙ sym c.same_name.ensures ∙ c.if-same_name.true in
    let l : c.loop-i.i < c.args.before = omega arith in
    among_stop c.args.name xs c.loop-i.i c.args.before a c.at.ensures l c.loop-i.invariant h

pub loop-i-preserved : goal.loop-i-preserved
loop-i-preserved c =
    let xs = attribute_list (attributes_tree c.args.attributes.now) in
    let a = attribute_tree c.at.result.now in
    let h : same_name a.1 c.args.name ≡ false = ap (λ n. same_name n c.args.name) (sym c.attribute_name.ensures) ∙ sym c.same_name.ensures ∙ c.if-same_name.false in
    among_next c.args.name xs c.loop-i.i a c.at.ensures c.loop-i.invariant ∙ h
