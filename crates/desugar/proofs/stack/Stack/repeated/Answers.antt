use Rattle.std.proofs.Common.{ap, sym, ◌∙◌}
use Rattle.desugar_values.specs.Meanings.{and_one}
use Rattle.desugar_values.specs.View.{meanings_tree}
use Rattle.desugar.specs.Stacks.{first_met, left}
use Rattle.desugar.specs.View.{stack_view}
use Rattle.desugar.proofs.Repeated.{repeated_turn, repeated_whole}
use Rattle.desugar.proofs.stack.Stack.repeated.Goals as goal

pub loop-trees-preserved : goal.loop-trees-preserved
loop-trees-preserved c =
    repeated_turn (stack_view c.args.self.now) (stack_view c.loop-trees.self) (stack_view c.first.new.self) (meanings_tree c.loop-trees.trees) (meanings_tree c.push.new.self)
    c.loop-trees.invariant (sym c.is_item.ensures.item ∙ c.loop-trees-test.true)
    (c.in_ok-push.ensures.ok ∙ ap (and_one (meanings_tree c.loop-trees.trees)) (c.first.ensures.first ∙ ap first_met c.is_item.ensures.left))
    (c.first.ensures.left ∙ ap left c.is_item.ensures.left)

pub returns-clause-trees : goal.returns-clause-trees
returns-clause-trees c =
    sym (ap (λ r. r.0) (repeated_whole (stack_view c.args.self.now) (stack_view c.loop-trees.self) (meanings_tree c.loop-trees.trees)
    c.loop-trees.invariant (sym c.is_item.ensures.item ∙ c.loop-trees-test.false)))
