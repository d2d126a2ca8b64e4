use Rattle.std.proofs.Common.{◌≡◌, length, map}
use Rattle.core_terms.specs.Lists.{item_tree}
use Rattle.core_terms.specs.Strip.{strip_items}
use Rattle.core_terms.specs.View.{items_from}
use Rattle.placed_terms.specs.Left.{is_empty}
use Rattle.placed_terms.proofs.made_terms.none_left.Given as goal

abbrev pub invariant-loop-first : goal.invariant-loop-first
invariant-loop-first l = is_empty (strip_items (items_from (map item_tree l.rest)))
    ≡ is_empty (strip_items (items_from (map item_tree l.items)))

abbrev pub decreases-loop-first : goal.decreases-loop-first
decreases-loop-first l = length l.rest
