use Rattle.std.proofs.Common.{◌≤◌, map, drop}
use Rattle.con_terms.specs.Size.{kinds_depth}
use Rattle.con_terms.specs.View.{kind_tree, kinds_tree, kinds_from}
use Rattle.con_terms.proofs.size.+kind_fits.Given as goal

abbrev pub invariant-kinds_fit-loop-i : goal.invariant-kinds_fit-loop-i
invariant-kinds_fit-loop-i l = record {
  whole : kinds_depth (kinds_tree l.ks) ≤ l.room → kinds_depth (kinds_from (map kind_tree (drop l.i l.ks.items.items))) ≤ l.room;
  rest : kinds_depth (kinds_from (map kind_tree (drop l.i l.ks.items.items))) ≤ l.room → kinds_depth (kinds_tree l.ks) ≤ l.room;
}
