use Rattle.std.proofs.Common.{◌≡◌, ◌+◌}
use Rattle.xml_trees.specs.Trees.{Whole, built}
use Rattle.page_walk.specs.Walked.{trees, nodes, all_done, nodes_left}
use Rattle.page_walk.proofs.trees.walked_through.Given as goal

abbrev pub invariant-loop : goal.invariant-loop
invariant-loop l = (all_done l.todo.items (built l.page) ≡ Whole (trees l.tree))
    × (l.initial.budget + nodes_left l.todo.items ≡ nodes l.tree + l.budget)
