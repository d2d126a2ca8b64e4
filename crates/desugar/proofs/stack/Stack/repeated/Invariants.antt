use Rattle.std.proofs.Common.{◌≡◌, length}
use Rattle.desugar_values.specs.View.{meanings_tree}
use Rattle.desugar.specs.Stacks.{repeated}
use Rattle.desugar.specs.View.{stack_view}
use Rattle.desugar.proofs.Repeated.{joined}
use Rattle.desugar.proofs.stack.Stack.repeated.Given as goal

abbrev pub invariant-loop-trees : goal.invariant-loop-trees
invariant-loop-trees l =
    repeated (stack_view l.initial.self) ≡ (joined (meanings_tree l.trees) (repeated (stack_view l.self)).0, (repeated (stack_view l.self)).1)

abbrev pub decreases-loop-trees : goal.decreases-loop-trees
decreases-loop-trees l = length (stack_view l.self)
