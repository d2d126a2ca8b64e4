use Rattle.std.proofs.Common.{◌+◌, ◌*◌}
use Rattle.unknowns.specs.Unknowns.{Keeps}
use Rattle.unknowns.specs.View.{found_tree}
use Rattle.unknowns.proofs.matching.+part.Given as goal

abbrev pub decreases-part : goal.decreases-part
decreases-part l = 8 * l.room

abbrev pub decreases-open_part : goal.decreases-open_part
decreases-open_part l = 8 * l.room + 7

abbrev pub decreases-of_head : goal.decreases-of_head
decreases-of_head l = 8 * l.room + 2

abbrev pub decreases-two_parts : goal.decreases-two_parts
decreases-two_parts l = 8 * l.room + 1

abbrev pub decreases-row : goal.decreases-row
decreases-row l = 8 * l.room + 3

abbrev pub decreases-literals : goal.decreases-literals
decreases-literals l = 8 * l.room + 2

abbrev pub decreases-literal : goal.decreases-literal
decreases-literal l = 8 * l.room + 1

abbrev pub invariant-literals-loop-i : goal.invariant-literals-loop-i
invariant-literals-loop-i l = Keeps (found_tree l.initial.found) (found_tree l.found)
