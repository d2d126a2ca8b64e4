use Rattle.std.proofs.Common.{◌≡◌, ◌+◌, ◌<◌, ◌^◌, map, drop}
use Rattle.con_terms.specs.Size.{nest_all, nest_pairs}
use Rattle.con_terms.specs.View.{con_tree, cons_tree, cons_from, pair_tree, pairs_tree, pairs_from}
use Rattle.con_terms.specs.declared.con.Pairs.{out-Pairs}
use Rattle.unknowns.specs.Unknowns.{known_all, known_pairs}
use Rattle.unknowns.specs.View.{found_tree}
use Rattle.unknowns.proofs.known.+known.Given as goal

abbrev pub decreases-all_known : goal.decreases-all_known
decreases-all_known l = goal.size-all_known l

abbrev pub decreases-known : goal.decreases-known
decreases-known l = goal.size-known l

abbrev pub decreases-pair_known : goal.decreases-pair_known
decreases-pair_known l = goal.size-pair_known l

abbrev pub decreases-pairs_known : goal.decreases-pairs_known
decreases-pairs_known l = goal.size-pairs_known l

abbrev pub invariant-all_known-loop-i : goal.invariant-all_known-loop-i
invariant-all_known-loop-i l = record {
  same : known_all (found_tree l.found) (cons_tree l.cs) l.depth ≡ known_all (found_tree l.found) (cons_from (map con_tree (drop l.i l.cs.items.items))) l.depth;
  room : l.depth + nest_all (cons_from (map con_tree (drop l.i l.cs.items.items))) < 2 ^ 32;
}

abbrev pub invariant-pairs_known-loop-i : goal.invariant-pairs_known-loop-i
invariant-pairs_known-loop-i l = record {
  same : known_pairs (found_tree l.found) (pairs_tree l.ps) l.depth ≡ known_pairs (found_tree l.found) (pairs_from (map pair_tree (drop l.i (out-Pairs l.ps).items.items))) l.depth;
  room : l.depth + nest_pairs (pairs_from (map pair_tree (drop l.i (out-Pairs l.ps).items.items))) < 2 ^ 32;
}
