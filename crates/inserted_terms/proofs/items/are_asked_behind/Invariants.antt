use Rattle.std.proofs.Common.{map, drop}
use Rattle.core_terms.specs.Lists.{item_tree}
use Rattle.core_terms.specs.View.{items_from, items_tree, maybe_con}
use Rattle.core_terms.specs.declared.exp.Form.TheViews.{out-Items}
use Rattle.inserted_terms.specs.Asked.{ItemsAsked}
use Rattle.inserted_terms.specs.View.{at_view}
use Rattle.inserted_terms.proofs.items.are_asked_behind.Given as goal

abbrev pub invariant-loop-i : goal.invariant-loop-i
invariant-loop-i l =
    ItemsAsked (at_view l.h) (maybe_con l.left) (items_from (map item_tree (drop l.i (out-Items l.is).items.items)))
    → ItemsAsked (at_view l.h) (maybe_con l.fn.t) (items_tree l.is)
