use Rattle.std.proofs.Common.{◌≡◌, [], length, reverse}
use Rattle.desugar.specs.Reading.{reads}
use Rattle.desugar.specs.View.{stack_view}
use Rattle.desugar.proofs.reading.read.Given as goal

abbrev pub invariant-loop-mark : goal.invariant-loop-mark
invariant-loop-mark l =
    reads (reverse l.tree.marks) (reverse l.tree.leaves) [] ≡ reads (reverse l.marks) (reverse l.leaves) (stack_view l.stack)

abbrev pub decreases-loop-mark : goal.decreases-loop-mark
decreases-loop-mark l = length l.marks
