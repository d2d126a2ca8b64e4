use Rattle.std.proofs.Common.{◌≡◌, map, length}
use Rattle.std.specs.Vec.Iter.{into_iter_items, into_iter_len}
use Rattle.con_terms.specs.View.{con_tree}
use Rattle.row_normal.specs.Glue.{joined_then}
use Rattle.row_normal.specs.Ordered.{glued}
use Rattle.row_normal.proofs.glue.with_literals_joined.Given as goal

abbrev pub invariant-loop-con : goal.invariant-loop-con
invariant-loop-con l =
    (joined_then l.joined (map con_tree (into_iter_items l.con-iterator)) ≡ glued (map con_tree l.fn.pieces.items))
    × (into_iter_len l.con-iterator ≡ length (into_iter_items l.con-iterator))
