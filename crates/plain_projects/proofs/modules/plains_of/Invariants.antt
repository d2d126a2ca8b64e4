use Rattle.std.proofs.Common.{List, ◌++◌, drop, map}
use Rattle.plain_tree.specs.Trees.{DeclTree}
use Rattle.plain_tree.specs.View.{plain_view}
use Rattle.plain_projects.specs.Listed.{ArePlainOf}
use Rattle.plain_projects.proofs.modules.plains_of.Given as goal

abbrev pub invariant-loop-module : goal.invariant-loop-module
invariant-loop-module l =
    (rest : List (List DeclTree)) → ArePlainOf (drop l.module-index l.modules) rest → ArePlainOf l.modules (map plain_view l.plains.items ++ rest)
