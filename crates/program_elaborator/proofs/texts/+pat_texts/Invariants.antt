use Rattle.std.proofs.Common.{◌*◌, ◌+◌}
use Rattle.program_elaborator.proofs.texts.+pat_texts.Given as goal

abbrev pub decreases-of_pat : goal.decreases-of_pat
decreases-of_pat l = 2 * l.room

abbrev pub decreases-of_pat_fields : goal.decreases-of_pat_fields
decreases-of_pat_fields l = 2 * l.room + 1
