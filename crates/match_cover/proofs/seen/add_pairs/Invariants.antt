use Rattle.std.proofs.Common.{◌≡◌, ◌++◌, drop, map}
use Rattle.con_terms.specs.Trees.{pair_list}
use Rattle.con_terms.specs.View.{pairs_tree}
use Rattle.match_cover.specs.View.{part_view}
use Rattle.match_cover.proofs.seen.add_pairs.Given as goal

abbrev pub invariant-loop-i : goal.invariant-loop-i
invariant-loop-i l = map part_view l.parts.items ++ drop l.i (pair_list (pairs_tree l.ps)) ≡ map part_view l.fn.parts.items ++ pair_list (pairs_tree l.ps)
