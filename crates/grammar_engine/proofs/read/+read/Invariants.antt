use Rattle.std.proofs.Common.{◌≡◌, ◌+◌, ◌*◌, ◌++◌, drop}
use Rattle.grammar_engine.proofs.Keeping.Grown.{Grows}
use Rattle.grammar_engine.proofs.Keeping.Allowing.{Ready}
use Rattle.grammar_engine.proofs.Keeping.Going.{Going}
use Rattle.grammar_engine.proofs.Keeping.Smaller.{left_over}
use Rattle.grammar_engine.proofs.read.+read.Given as goal

abbrev pub decreases-is_bind : goal.decreases-is_bind
decreases-is_bind l = 10 * l.races + 2

abbrev pub decreases-goes_on : goal.decreases-goes_on
decreases-goes_on l = 10 * l.races + 3

abbrev pub decreases-is_kind_mark : goal.decreases-is_kind_mark
decreases-is_kind_mark l = 10 * l.races + 2

abbrev pub decreases-try_way : goal.decreases-try_way
decreases-try_way l = 10 * l.races + 1

abbrev pub decreases-meet : goal.decreases-meet
decreases-meet l = 10 * l.races + 4

abbrev pub decreases-pick : goal.decreases-pick
decreases-pick l = 10 * l.races + 3

abbrev pub decreases-read_part : goal.decreases-read_part
decreases-read_part l = 10 * l.races + 5

abbrev pub invariant-read_part-loop-want : goal.invariant-read_part-loop-want
invariant-read_part-loop-want l = record {
  grows : Grows l.fn.tokens.items l.fn.part l.fn.at l.fn.room (drop l.machine.at l.fn.tokens.items) l.machine.wants l.machine.tree.leaves l.machine.tree.marks;
  read : drop l.fn.at l.fn.tokens.items ≡ l.machine.tree.leaves ++ drop l.machine.at l.fn.tokens.items;
  going : Going l.fn.tokens.items l.fn.part l.fn.at l.fn.room l.fn.races l.machine.at l.machine.far l.machine.wants l.machine.tree.leaves l.machine.tree.marks;
  ready : Ready l.fn.tokens.items l.fn.part l.fn.at l.fn.room l.machine.at l.machine.far l.machine.wants;
}

abbrev pub decreases-read_part-loop-want : goal.decreases-read_part-loop-want
decreases-read_part-loop-want l = left_over (drop l.machine.at l.tokens.items) l.machine.wants
