use Rattle.std.proofs.Common.{vec_len}
use Rattle.term_parts.proofs.patterns.turned_back.Given as goal

abbrev pub decreases-turns : goal.decreases-turns
decreases-turns l = vec_len l.turned
