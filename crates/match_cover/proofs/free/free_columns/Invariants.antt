use Rattle.std.proofs.Common.{◌≡◌, map}
use Rattle.core_terms.specs.View.{datatype_view}
use Rattle.type_faults.specs.View.{shape_tree}
use Rattle.match_cover.specs.Misses.{misses, prepended}
use Rattle.match_cover.specs.View.{columns_view, rows_view}
use Rattle.match_cover.proofs.free.free_columns.Given as goal

abbrev pub invariant-loop-room : goal.invariant-loop-room
invariant-loop-room l =
    prepended (map shape_tree l.shapes.items) (misses (map datatype_view l.datatypes.items) l.room (columns_view l.now.value) (rows_view l.left))
    ≡ misses (map datatype_view l.datatypes.items) l.fn.room (columns_view l.cols.value) (rows_view l.rows)

abbrev pub decreases-loop-room : goal.decreases-loop-room
decreases-loop-room l = l.room
