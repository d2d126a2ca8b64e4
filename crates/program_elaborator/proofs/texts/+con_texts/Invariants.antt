use Rattle.std.proofs.Common.{◌*◌, ◌+◌}
use Rattle.program_elaborator.proofs.texts.+con_texts.Given as goal

abbrev pub decreases-of_con : goal.decreases-of_con
decreases-of_con l = 2 * l.room

abbrev pub decreases-of_cons : goal.decreases-of_cons
decreases-of_cons l = 2 * l.room + 1

abbrev pub decreases-of_con_fields : goal.decreases-of_con_fields
decreases-of_con_fields l = 2 * l.room + 1
