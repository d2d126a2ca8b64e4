use Rattle.std.proofs.Common.{◌≡◌, drop}
use Rattle.match_cover.specs.Rows.{heads_are_free}
use Rattle.match_cover.specs.View.{row_list}
use Rattle.match_cover.proofs.rows.heads_are_free.Given as goal

abbrev pub invariant-loop-i : goal.invariant-loop-i
invariant-loop-i l = heads_are_free (row_list l.rows.items.items) ≡ heads_are_free (row_list (drop l.i l.rows.items.items))
