use Rattle.std.proofs.Common.{◌≡◌, length, map}
use Rattle.ur_lexer.specs.Words.{word_kind}
use Rattle.ur_lexer.proofs.lookups.word_kind.Given as goal

abbrev pub invariant-loop-table : goal.invariant-loop-table
invariant-loop-table l = word_kind (map (λ e. (e.0.now, e.1)) l.table) l.word ≡ word_kind (map (λ e. (e.0.now, e.1)) l.fn.table) l.word

abbrev pub decreases-loop-table : goal.decreases-loop-table
decreases-loop-table l = length l.table
