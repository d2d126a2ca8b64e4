use Rattle.std.proofs.Common.{◌≡◌, ◌==◌, map, take}
use Rattle.std.specs.List.{IsDistinct}
use Rattle.con_terms.specs.Trees.{name, names_of}
use Rattle.con_terms.specs.View.{pair_tree, pairs_from}
use Rattle.con_terms.specs.declared.con.Pairs.{out-Pairs}
use Rattle.kind_rules.proofs.compare.are_different_literals.Given as goal

abbrev pub invariant-loop-i : goal.invariant-loop-i
invariant-loop-i l = record {
  named : map name l.numbers.keys ≡ names_of (pairs_from (map pair_tree (take l.i (out-Pairs l.ps).items.items)));
  distinct : IsDistinct ◌==◌ l.numbers.keys;
}
