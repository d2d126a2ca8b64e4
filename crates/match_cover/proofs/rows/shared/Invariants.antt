use Rattle.std.proofs.Common.{◌≡◌, take}
use Rattle.match_cover.specs.View.{row_list}
use Rattle.match_cover.proofs.rows.shared.Given as goal

abbrev pub invariant-loop-i : goal.invariant-loop-i
invariant-loop-i l = row_list l.items.items ≡ row_list (take l.i l.rows.items.items)
