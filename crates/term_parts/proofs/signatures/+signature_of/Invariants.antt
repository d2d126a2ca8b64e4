use Rattle.std.proofs.Common.{◌+◌}
use Rattle.term_parts.proofs.signatures.+signature_of.Given as goal

abbrev pub decreases-signature_of : goal.decreases-signature_of
decreases-signature_of l = l.room
