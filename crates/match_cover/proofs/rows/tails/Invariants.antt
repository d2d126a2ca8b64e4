use Rattle.std.proofs.Common.{◌≡◌, ◌++◌, drop}
use Rattle.match_cover.specs.Rows.{tails}
use Rattle.match_cover.specs.View.{row_list}
use Rattle.match_cover.proofs.rows.tails.Given as goal

abbrev pub invariant-loop-i : goal.invariant-loop-i
invariant-loop-i l = row_list l.items.items ++ tails (row_list (drop l.i l.rows.items.items)) ≡ tails (row_list l.rows.items.items)
