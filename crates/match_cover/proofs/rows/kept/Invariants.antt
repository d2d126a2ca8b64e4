use Rattle.std.proofs.Common.{◌≡◌, ◌++◌, drop}
use Rattle.match_cover.specs.Rows.{kept}
use Rattle.type_faults.specs.View.{shape_tree}
use Rattle.match_cover.specs.View.{row_list}
use Rattle.match_cover.proofs.rows.kept.Given as goal

abbrev pub invariant-loop-i : goal.invariant-loop-i
invariant-loop-i l = row_list l.items.items ++ kept (shape_tree l.s) (row_list (drop l.i l.rows.items.items)) ≡ kept (shape_tree l.s) (row_list l.rows.items.items)
