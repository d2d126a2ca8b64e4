use Rattle.std.proofs.Common.{◌≡◌, drop, map}
use Rattle.core_terms.specs.Lists.{item_list}
use Rattle.core_terms.specs.View.{items_tree}
use Rattle.judgements.specs.View.{judged_tree, sc_view}
use Rattle.markup_rules.specs.View.{judgements_view}
use Rattle.node_rules.specs.View.{past_tree}
use Rattle.judged_terms.specs.Listed.{items_found}
use Rattle.core_checker.proofs.lists.with_items.Given as goal

abbrev pub invariant-loop-j : goal.invariant-loop-j
invariant-loop-j l =
    items_found (sc_view l.g l.s) l.p (map judged_tree l.j-iterator.rest.items) (drop l.i (item_list (items_tree l.is))) (past_tree l.now)
    ≡ items_found (sc_view l.g l.s) l.p (judgements_view l.fn.found) (item_list (items_tree l.is)) (past_tree l.fn.past)
