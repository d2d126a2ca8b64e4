use Rattle.std.proofs.Common.{◌≡◌, length, map}
use Rattle.core_terms.specs.View as made_view
use Rattle.placed_terms.specs.Placed.{all_placed, are_placed, numbered}
use Rattle.plain_tree.specs.View as plain_view
use Rattle.placed_terms.proofs.placed.are_placed.Given as goal

abbrev pub invariant-loop-tree : goal.invariant-loop-tree
invariant-loop-tree l = all_placed (numbered l.file (map plain_view.plain_view l.left))
    (map made_view.decl_tree l.rest)
    ≡ are_placed (map plain_view.plain_view l.trees) (made_view.program_view l.program)

abbrev pub decreases-loop-tree : goal.decreases-loop-tree
decreases-loop-tree l = length l.left
