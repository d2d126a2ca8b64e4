use Rattle.std.proofs.Common.{◌≡◌, map, drop}
use Rattle.con_terms.specs.Trees.{names_of}
use Rattle.con_terms.specs.View.{pair_tree, pairs_from, pairs_tree}
use Rattle.con_terms.specs.declared.con.Pairs.{out-Pairs}
use Rattle.disjoint_prover.specs.View.{guard_list}
use Rattle.kind_rules.specs.Compared.{not_pairwise_apart}
use Rattle.kind_rules.proofs.compare.flaw_in_order.Given as goal

abbrev pub invariant-loop-i : goal.invariant-loop-i
invariant-loop-i l =
    not_pairwise_apart (guard_list l.g) (names_of (pairs_tree l.ps))
    ≡ not_pairwise_apart (guard_list l.g) (names_of (pairs_from (map pair_tree (drop l.i (out-Pairs l.ps).items.items))))
