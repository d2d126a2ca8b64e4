use Rattle.std.proofs.Common.{◌≡◌, length, map}
use Rattle.ur_lexer.specs.Words.{symbol_at}
use Rattle.ur_lexer.proofs.lookups.symbol_at.Given as goal

abbrev pub invariant-loop-table : goal.invariant-loop-table
invariant-loop-table l = symbol_at (map (λ e. (e.0.now, e.1, e.2)) l.table) l.bytes ≡ symbol_at (map (λ e. (e.0.now, e.1, e.2)) l.fn.table) l.bytes

abbrev pub decreases-loop-table : goal.decreases-loop-table
decreases-loop-table l = length l.table
