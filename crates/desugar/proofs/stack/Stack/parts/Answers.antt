use Rattle.std.proofs.Common.{ap, ◌≤◌, length, arith}
use Rattle.desugar_values.specs.View.{meanings_tree}
use Rattle.desugar.specs.View.{stack_view}
use Rattle.desugar.proofs.Repeated.{parts_whole}
use Rattle.desugar.proofs.stack.Stack.parts.Goals as goal

pub returns-clause-parts : goal.returns-clause-parts
returns-clause-parts c =
    let done : length c.args.body.now ≤ c.loop-wanted.wanted-index = omega arith in
    ap (λ r. r.0) (parts_whole c.args.body.now c.loop-wanted.wanted-index (stack_view c.args.self.now) (stack_view c.loop-wanted.self) (meanings_tree c.loop-wanted.parts) done c.loop-wanted.invariant)

pub returns-clause-left : goal.returns-clause-left
returns-clause-left c =
    let done : length c.args.body.now ≤ c.loop-wanted.wanted-index = omega arith in
    ap (λ r. r.1) (parts_whole c.args.body.now c.loop-wanted.wanted-index (stack_view c.args.self.now) (stack_view c.loop-wanted.self) (meanings_tree c.loop-wanted.parts) done c.loop-wanted.invariant)
