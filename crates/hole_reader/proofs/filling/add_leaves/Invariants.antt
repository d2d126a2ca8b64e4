use Rattle.std.proofs.Common.{◌≡◌, ◌++◌, take}
use Rattle.hole_reader.proofs.filling.add_leaves.Given as goal

abbrev pub invariant-loop-token : goal.invariant-loop-token
invariant-loop-token l = record {
  leaves : l.tree.leaves ≡ l.fn.tree.leaves ++ take l.token-index l.token-items;
  marks : l.tree.marks ≡ l.fn.tree.marks;
}
