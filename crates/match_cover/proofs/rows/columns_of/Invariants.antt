use Rattle.std.proofs.Common.{◌≡◌, drop, map}
use Rattle.match_cover.specs.Rows.{before_cells, columns_of}
use Rattle.match_cover.specs.View.{cell_at, part_view, row_view, tests_tree}
use Rattle.match_cover.proofs.rows.columns_of.Given as goal

abbrev pub invariant-loop-i : goal.invariant-loop-i
invariant-loop-i l =
    before_cells (map cell_at l.cells.items) (columns_of (map part_view (drop l.i l.fields.items)) (tests_tree l.rest) (row_view l.more.value))
    ≡ columns_of (map part_view l.fields.items) (tests_tree l.fn.ts) (row_view l.more.value)
