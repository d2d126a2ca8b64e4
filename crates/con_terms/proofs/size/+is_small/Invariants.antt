use Rattle.std.proofs.Common.{◌<◌, ◌≤◌, ◌^◌, map, drop}
use Rattle.con_terms.specs.Size.{top_all, top_pairs, nest_all, nest_pairs}
use Rattle.con_terms.specs.View.{con_tree, cons_tree, cons_from, pair_tree, pairs_tree, pairs_from}
use Rattle.con_terms.specs.declared.con.Pairs.{out-Pairs}
use Rattle.con_terms.proofs.size.+is_small.Given as goal

abbrev pub invariant-are_small-loop-i : goal.invariant-are_small-loop-i
invariant-are_small-loop-i l = record {
  whole : (top_all (cons_tree l.cs) < 2 ^ 31) × (nest_all (cons_tree l.cs) ≤ l.room) →
      (top_all (cons_from (map con_tree (drop l.i l.cs.items.items))) < 2 ^ 31) × (nest_all (cons_from (map con_tree (drop l.i l.cs.items.items))) ≤ l.room);
  rest : (top_all (cons_from (map con_tree (drop l.i l.cs.items.items))) < 2 ^ 31) × (nest_all (cons_from (map con_tree (drop l.i l.cs.items.items))) ≤ l.room) →
      (top_all (cons_tree l.cs) < 2 ^ 31) × (nest_all (cons_tree l.cs) ≤ l.room);
}

abbrev pub invariant-are_small_pairs-loop-i : goal.invariant-are_small_pairs-loop-i
invariant-are_small_pairs-loop-i l = record {
  whole : (top_pairs (pairs_tree l.ps) < 2 ^ 31) × (nest_pairs (pairs_tree l.ps) ≤ l.room) →
      (top_pairs (pairs_from (map pair_tree (drop l.i (out-Pairs l.ps).items.items))) < 2 ^ 31) × (nest_pairs (pairs_from (map pair_tree (drop l.i (out-Pairs l.ps).items.items))) ≤ l.room);
  rest : (top_pairs (pairs_from (map pair_tree (drop l.i (out-Pairs l.ps).items.items))) < 2 ^ 31) × (nest_pairs (pairs_from (map pair_tree (drop l.i (out-Pairs l.ps).items.items))) ≤ l.room) →
      (top_pairs (pairs_tree l.ps) < 2 ^ 31) × (nest_pairs (pairs_tree l.ps) ≤ l.room);
}
