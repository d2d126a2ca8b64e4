use Rattle.std.proofs.Common.{◌≡◌, ◌++◌, drop}
use Rattle.core_checker.proofs.entries.copy_texts.Given as goal

abbrev pub invariant-loop-i : goal.invariant-loop-i
invariant-loop-i l = l.new ++ drop l.i l.texts ≡ l.texts
