use Rattle.std.proofs.Common.{◌≡◌, map, length}
use Rattle.std.specs.Vec.Iter.{into_iter_items, into_iter_len}
use Rattle.row_normal.specs.Glue.{joined_then, piece_tree}
use Rattle.row_normal.specs.Ordered.{glued}
use Rattle.row_normal.proofs.glue.joined_literals.Given as goal

abbrev pub invariant-loop-piece : goal.invariant-loop-piece
invariant-loop-piece l =
    (joined_then l.joined (map piece_tree (into_iter_items l.piece-iterator)) ≡ glued (map piece_tree l.fn.pieces.items))
    × (into_iter_len l.piece-iterator ≡ length (into_iter_items l.piece-iterator))
