use Rattle.std.proofs.Common.{◌≡◌, ◌++◌, drop}
use Rattle.fault_lines.specs.Shapes.{escaped}
use Rattle.fault_lines.proofs.shapes.escaped.Given as goal

abbrev pub invariant-loop-i : goal.invariant-loop-i
invariant-loop-i l = escaped l.text ≡ l.made.items ++ escaped (drop l.i l.text)
