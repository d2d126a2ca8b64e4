use Rattle.std.proofs.Common.{◌≡◌, drop}
use Rattle.desugar_values.specs.Meanings.{no_meaning}
use Rattle.desugar_values.specs.View.{meanings_tree}
use Rattle.desugar.specs.View.{stack_view}
use Rattle.desugar.proofs.Repeated.{parts_onto}
use Rattle.desugar.proofs.stack.Stack.parts.Given as goal

abbrev pub invariant-loop-wanted : goal.invariant-loop-wanted
invariant-loop-wanted l =
    parts_onto (drop l.wanted-index l.body) (meanings_tree l.parts) (stack_view l.self) ≡ parts_onto l.body no_meaning (stack_view l.initial.self)
