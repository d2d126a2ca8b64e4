use Rattle.std.proofs.Common.{◌≡◌, map, vec_len}
use Rattle.con_terms.specs.View.{con_tree, kind_tree}
use Rattle.row_normal.specs.Glue.{cats_before}
use Rattle.row_normal.specs.Ordered.{joined}
use Rattle.row_normal.proofs.glue.concatenated.Given as goal

abbrev pub invariant-joins : goal.invariant-joins
invariant-joins l = joined (kind_tree l.fn.kind) (map con_tree l.fn.pieces.items) ≡ cats_before (map con_tree l.pieces.items) (con_tree l.whole)

abbrev pub decreases-joins : goal.decreases-joins
decreases-joins l = vec_len l.pieces
