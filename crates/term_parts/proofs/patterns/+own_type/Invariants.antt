use Rattle.std.proofs.Common.{◌+◌, ◌*◌}
use Rattle.term_parts.proofs.patterns.+own_type.Given as goal

abbrev pub decreases-own_type : goal.decreases-own_type
decreases-own_type l = 2 * l.room

abbrev pub decreases-own_record : goal.decreases-own_record
decreases-own_record l = 2 * l.room + 1
