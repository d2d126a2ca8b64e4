use Rattle.match_cover.specs.View.{row_view}
use Rattle.match_cover.proofs.Fronts.{cells_on}
use Rattle.match_cover.proofs.rows.with_cells.Goals as goal

pub joins-preserved : goal.joins-preserved
joins-preserved c =
    cells_on c.joins.waiting.items c.pop.new.self.items c.in-Some.cell (row_view c.joins.row.value) (row_view c.in_ok-row-2.row.value) _
    c.in-Some.ensures.items c.in_ok-row-2.ensures c.joins.invariant
