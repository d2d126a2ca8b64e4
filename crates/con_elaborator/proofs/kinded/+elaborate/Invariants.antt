use Rattle.std.proofs.Common.{◌*◌, ◌+◌}
use Rattle.con_elaborator.proofs.kinded.+elaborate.Given as goal

abbrev pub decreases-elaborate : goal.decreases-elaborate
decreases-elaborate l = 4 * l.room

abbrev pub decreases-of_arrow : goal.decreases-of_arrow
decreases-of_arrow l = 4 * l.room + 3

abbrev pub decreases-of_poly : goal.decreases-of_poly
decreases-of_poly l = 4 * l.room + 3

abbrev pub decreases-of_guarded : goal.decreases-of_guarded
decreases-of_guarded l = 4 * l.room + 3

abbrev pub decreases-of_lambda : goal.decreases-of_lambda
decreases-of_lambda l = 4 * l.room + 3

abbrev pub decreases-of_record : goal.decreases-of_record
decreases-of_record l = 4 * l.room + 3

abbrev pub decreases-of_apply : goal.decreases-of_apply
decreases-of_apply l = 4 * l.room + 3

abbrev pub decreases-of_concat : goal.decreases-of_concat
decreases-of_concat l = 4 * l.room + 3

abbrev pub decreases-of_tuple : goal.decreases-of_tuple
decreases-of_tuple l = 4 * l.room + 3

abbrev pub decreases-of_kinded : goal.decreases-of_kinded
decreases-of_kinded l = 4 * l.room + 3

abbrev pub decreases-of_row : goal.decreases-of_row
decreases-of_row l = 4 * l.room + 3

abbrev pub decreases-of_proj : goal.decreases-of_proj
decreases-of_proj l = 4 * l.room + 3

abbrev pub decreases-first_applied : goal.decreases-first_applied
decreases-first_applied l = 4 * l.room + 2

abbrev pub decreases-with_argument : goal.decreases-with_argument
decreases-with_argument l = 4 * l.room + 1

abbrev pub decreases-with_part : goal.decreases-with_part
decreases-with_part l = 4 * l.room + 1
