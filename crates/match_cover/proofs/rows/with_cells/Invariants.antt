use Rattle.std.proofs.Common.{◌≡◌, Some, map, vec_len}
use Rattle.match_cover.specs.Rows.{before_cells}
use Rattle.match_cover.specs.View.{cell_at, row_view}
use Rattle.match_cover.proofs.rows.with_cells.Given as goal

abbrev pub invariant-joins : goal.invariant-joins
invariant-joins l =
    before_cells (map cell_at l.waiting.items) (Some (row_view l.row.value)) ≡ before_cells (map cell_at l.fn.cells.items) (Some (row_view l.more.value))

abbrev pub decreases-joins : goal.decreases-joins
decreases-joins l = vec_len l.waiting
