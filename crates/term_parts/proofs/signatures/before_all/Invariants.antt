use Rattle.std.proofs.Common.{vec_len}
use Rattle.term_parts.proofs.signatures.before_all.Given as goal

abbrev pub decreases-builds : goal.decreases-builds
decreases-builds l = vec_len l.parts
