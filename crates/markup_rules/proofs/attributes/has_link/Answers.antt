use Rattle.std.proofs.Common.{◌≡◌, ◌∙◌, ap, sym, true, false}
use Rattle.core_terms.specs.Lists.{attribute_list, attribute_tree}
use Rattle.core_terms.specs.View.{attributes_tree}
use Rattle.markup_rules.specs.Attributes.{is_link}
use Rattle.markup_rules.proofs.Loops.{links_on, links_stop}
use Rattle.markup_rules.proofs.attributes.has_link.Goals as goal

pub returns-then-is_link : goal.returns-then-is_link
returns-then-is_link c =
    let xs = attribute_list (attributes_tree c.args.attributes.now) in
    let a = attribute_tree c.at.result.now in
    let h : is_link a.1 ≡ true = ap is_link (sym c.attribute_name.ensures) ∙ sym c.is_link.ensures ∙ c.if-is_link.true in
    links_stop xs c.loop-i.i a c.at.ensures h c.loop-i.invariant

pub loop-i-preserved : goal.loop-i-preserved
loop-i-preserved c =
    let xs = attribute_list (attributes_tree c.args.attributes.now) in
    let a = attribute_tree c.at.result.now in
    let h : is_link a.1 ≡ false = ap is_link (sym c.attribute_name.ensures) ∙ sym c.is_link.ensures ∙ c.if-is_link.false in
    links_on xs c.loop-i.i a _ c.at.ensures h c.loop-i.invariant
