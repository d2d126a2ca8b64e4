use Rattle.std.proofs.Common.{◌+◌}
use Rattle.call_parts.proofs.arguments.+only_contexts.Given as goal

abbrev pub decreases-only_contexts : goal.decreases-only_contexts
decreases-only_contexts l = l.room
