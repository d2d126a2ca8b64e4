use Rattle.std.proofs.Common.{◌≡◌, ◌++◌, true, drop}
use Rattle.fault_lines.specs.Lines.{slashed}
use Rattle.fault_lines.proofs.names.put_address.Given as goal

abbrev pub invariant-loop-i : goal.invariant-loop-i
invariant-loop-i l = l.initial.line ++ slashed true l.parts ≡ l.line ++ slashed l.first (drop l.i l.parts)
