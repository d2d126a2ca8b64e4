use Rattle.std.proofs.Common.{◌≡◌, ◌++◌, take}
use Rattle.xml_trees.proofs.page.append.Given as goal

abbrev pub invariant-loop-piece : goal.invariant-loop-piece
invariant-loop-piece l = l.pieces.items ≡ l.initial.pieces.items ++ take l.piece-index l.more
