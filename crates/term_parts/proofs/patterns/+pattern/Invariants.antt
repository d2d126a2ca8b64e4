use Rattle.std.proofs.Common.{◌+◌, ◌*◌}
use Rattle.term_parts.proofs.patterns.+pattern.Given as goal

abbrev pub decreases-pattern : goal.decreases-pattern
decreases-pattern l = 2 * l.room

abbrev pub decreases-holding : goal.decreases-holding
decreases-holding l = 2 * l.room + 1

abbrev pub decreases-annotated : goal.decreases-annotated
decreases-annotated l = 2 * l.room + 1

abbrev pub decreases-record_fields : goal.decreases-record_fields
decreases-record_fields l = 2 * l.room + 1
