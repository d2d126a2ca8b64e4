use Rattle.std.proofs.Common.{Some, ap, sym, ◌∙◌}
use Rattle.plain_tree.specs.ExpView.{nodes_tree}
use Rattle.page_forms.proofs.Places.{place_of_tags, place_of_texts}
use Rattle.page_forms.proofs.contexts.ring_of.Goals as goal

pub returns-then-are_texts : goal.returns-then-are_texts
returns-then-are_texts c =
    ap Some c.free.ensures
    ∙ place_of_texts (nodes_tree c.args.nodes.now) c.in_ok-tags.tags.items c.in_ok-tags.ensures
    (sym c.are_texts.ensures ∙ c.if-are_texts.true)

pub returns : goal.returns
returns c =
    c.first_fitting.ensures
    ∙ place_of_tags (nodes_tree c.args.nodes.now) c.in_ok-tags.tags.items c.in_ok-tags.ensures
    (sym c.are_texts.ensures ∙ c.if-are_texts.false)
