use Rattle.std.proofs.Common.{◌≡◌, ◌++◌, ℕ, List, length, map}
use Rattle.core_terms.specs.View as made_view
use Rattle.placed_terms.specs.Placed.{all_placed}
use Rattle.plain_tree.specs.Trees.{DeclTree}
use Rattle.plain_tree.specs.View as plain_view
use Rattle.placed_terms.proofs.placed.behind_module.Given as goal

abbrev pub invariant-loop-source : goal.invariant-loop-source
invariant-loop-source l = (more : List (ℕ × DeclTree))
    → all_placed (map (λ d. (l.file, d)) (map plain_view.decl_tree l.left) ++ more)
    (map made_view.decl_tree l.rest)
    ≡ all_placed (map (λ d. (l.file, d)) (map plain_view.decl_tree l.decls) ++ more)
    (map made_view.decl_tree l.made)

abbrev pub decreases-loop-source : goal.decreases-loop-source
decreases-loop-source l = length l.left
