use Rattle.std.proofs.Common.{◌≡◌, map, take}
use Rattle.con_terms.specs.View.{con_tree, pair_tree}
use Rattle.con_terms.specs.declared.con.Pairs.{out-Pairs}
use Rattle.con_terms.proofs.copy.+copy_con.Given as goal

abbrev pub invariant-copy_cons-loop-i : goal.invariant-copy_cons-loop-i
invariant-copy_cons-loop-i l = map con_tree l.items.items ≡ map con_tree (take l.i l.cs.items.items)

abbrev pub invariant-copy_pairs-loop-i : goal.invariant-copy_pairs-loop-i
invariant-copy_pairs-loop-i l = map pair_tree l.items.items ≡ map pair_tree (take l.i (out-Pairs l.ps).items.items)
