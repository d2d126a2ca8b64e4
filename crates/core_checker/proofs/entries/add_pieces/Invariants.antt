use Rattle.std.proofs.Common.{◌≡◌, ◌++◌, drop}
use Rattle.core_checker.specs.Keys.{dotted}
use Rattle.core_checker.proofs.entries.add_pieces.Given as goal

abbrev pub invariant-loop-i : goal.invariant-loop-i
invariant-loop-i l = l.key ++ dotted (drop l.i l.name) ≡ l.initial.key ++ dotted l.name
