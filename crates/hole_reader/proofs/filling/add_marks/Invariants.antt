use Rattle.std.proofs.Common.{◌≡◌, ◌++◌, take}
use Rattle.hole_reader.proofs.filling.add_marks.Given as goal

abbrev pub invariant-loop-mark : goal.invariant-loop-mark
invariant-loop-mark l = record {
  marks : l.tree.marks ≡ l.fn.tree.marks ++ take l.mark-index l.mark-items;
  leaves : l.tree.leaves ≡ l.fn.tree.leaves;
}
