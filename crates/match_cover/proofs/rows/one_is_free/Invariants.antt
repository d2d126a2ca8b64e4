use Rattle.std.proofs.Common.{◌≡◌, drop}
use Rattle.match_cover.specs.Rows.{one_is_free}
use Rattle.match_cover.specs.View.{row_list}
use Rattle.match_cover.proofs.rows.one_is_free.Given as goal

abbrev pub invariant-loop-i : goal.invariant-loop-i
invariant-loop-i l = one_is_free (row_list l.rows.items.items) ≡ one_is_free (row_list (drop l.i l.rows.items.items))
