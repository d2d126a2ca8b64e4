use Rattle.std.proofs.Common.{map, take}
use Rattle.core_terms.specs.View.{pat_tree}
use Rattle.match_cover.specs.Laws.{Asks}
use Rattle.match_cover.specs.View.{rows_view}
use Rattle.match_cover.proofs.cover.asked_of.Given as goal

abbrev pub invariant-loop-i : goal.invariant-loop-i
invariant-loop-i l = Asks (map pat_tree (take l.i l.ps.items.items)) (rows_view l.asked.rows) l.asked.depth
