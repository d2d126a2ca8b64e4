use Rattle.std.proofs.Common.{◌≤◌, map, drop}
use Rattle.con_terms.specs.Size.{depth_all, depth_pairs}
use Rattle.con_terms.specs.View.{con_tree, cons_tree, cons_from, pair_tree, pairs_tree, pairs_from}
use Rattle.con_terms.specs.declared.con.Pairs.{out-Pairs}
use Rattle.con_terms.proofs.size.+fits.Given as goal

abbrev pub invariant-all_fit-loop-i : goal.invariant-all_fit-loop-i
invariant-all_fit-loop-i l = record {
  whole : depth_all (cons_tree l.cs) ≤ l.room → depth_all (cons_from (map con_tree (drop l.i l.cs.items.items))) ≤ l.room;
  rest : depth_all (cons_from (map con_tree (drop l.i l.cs.items.items))) ≤ l.room → depth_all (cons_tree l.cs) ≤ l.room;
}

abbrev pub invariant-pairs_fit-loop-i : goal.invariant-pairs_fit-loop-i
invariant-pairs_fit-loop-i l = record {
  whole : depth_pairs (pairs_tree l.ps) ≤ l.room → depth_pairs (pairs_from (map pair_tree (drop l.i (out-Pairs l.ps).items.items))) ≤ l.room;
  rest : depth_pairs (pairs_from (map pair_tree (drop l.i (out-Pairs l.ps).items.items))) ≤ l.room → depth_pairs (pairs_tree l.ps) ≤ l.room;
}
