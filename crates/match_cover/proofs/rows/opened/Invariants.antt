use Rattle.std.proofs.Common.{◌≡◌, ◌++◌, drop, map}
use Rattle.match_cover.specs.Rows.{opened}
use Rattle.match_cover.specs.View.{row_list, part_view}
use Rattle.match_cover.proofs.rows.opened.Given as goal

abbrev pub invariant-loop-i : goal.invariant-loop-i
invariant-loop-i l = row_list l.items.items ++ opened (map part_view l.fields.items) (row_list (drop l.i l.rows.items.items)) ≡ opened (map part_view l.fields.items) (row_list l.rows.items.items)
