use Rattle.std.proofs.Common.{◌≡◌, map, drop}
use Rattle.con_terms.specs.View.{pair_tree, pairs_from}
use Rattle.con_terms.specs.declared.con.Con.TheViews.{out-Pairs}
use Rattle.carried_types.specs.Filling.{are_filled}
use Rattle.carried_types.proofs.carried.are_filled.Given as goal

abbrev pub invariant-loop-i : goal.invariant-loop-i
invariant-loop-i l =
    are_filled (pairs_from (map pair_tree (out-Pairs l.ps).items.items))
    ≡ are_filled (pairs_from (map pair_tree (drop l.i (out-Pairs l.ps).items.items)))
