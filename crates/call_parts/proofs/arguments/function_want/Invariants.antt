use Rattle.std.proofs.Common.{vec_len}
use Rattle.call_parts.proofs.arguments.function_want.Given as goal

abbrev pub decreases-wraps : goal.decreases-wraps
decreases-wraps l = vec_len l.parameters
