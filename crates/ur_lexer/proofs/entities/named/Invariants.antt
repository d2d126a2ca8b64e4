use Rattle.std.proofs.Common.{◌≡◌, length, map}
use Rattle.ur_lexer.specs.Entities.{named}
use Rattle.ur_lexer.proofs.entities.named.Given as goal

abbrev pub invariant-loop-table : goal.invariant-loop-table
invariant-loop-table l = named (map (λ e. (e.0.now, e.1)) l.table) l.bytes ≡ named (map (λ e. (e.0.now, e.1)) l.fn.table) l.bytes

abbrev pub decreases-loop-table : goal.decreases-loop-table
decreases-loop-table l = length l.table
