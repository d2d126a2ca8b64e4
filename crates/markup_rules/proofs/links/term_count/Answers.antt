use Rattle.std.proofs.Common.{◌≡◌, ◌∙◌, sym, true, false}
use Rattle.core_terms.specs.Lists.{item_list, item_tree}
use Rattle.core_terms.specs.View.{items_tree}
use Rattle.markup_rules.specs.Links.{is_term}
use Rattle.markup_rules.proofs.Loops.{terms_on, terms_stop}
use Rattle.markup_rules.proofs.links.term_count.Goals as goal

pub returns-then-not-is_term : goal.returns-then-not-is_term
returns-then-not-is_term c =
    let xs = item_list (items_tree c.args.items.now) in
    let h : is_term (item_tree c.at.result.now) ≡ false = sym c.is_term.ensures ∙ c.if-not-is_term.true in
    terms_stop xs c.loop-i.i (item_tree c.at.result.now) c.at.ensures h c.loop-i.invariant

pub loop-i-preserved : goal.loop-i-preserved
loop-i-preserved c =
    let xs = item_list (items_tree c.args.items.now) in
    let h : is_term (item_tree c.at.result.now) ≡ true = sym c.is_term.ensures ∙ c.if-not-is_term.false in
    terms_on xs c.loop-i.i (item_tree c.at.result.now) _ c.at.ensures h c.loop-i.invariant
