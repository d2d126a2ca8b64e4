use Rattle.std.proofs.Common.{◌≡◌, map, drop}
use Rattle.con_terms.specs.Trees.{names_of}
use Rattle.con_terms.specs.View.{con_tree, pair_tree, pairs_from}
use Rattle.con_terms.specs.declared.con.Pairs.{out-Pairs}
use Rattle.disjoint_prover.specs.View.{guard_list}
use Rattle.kind_rules.specs.Compared.{not_apart_from}
use Rattle.kind_rules.proofs.compare.flaw_after.Given as goal

abbrev pub invariant-loop-i : goal.invariant-loop-i
invariant-loop-i l =
    not_apart_from (guard_list l.g) (con_tree l.name) (names_of (pairs_from (map pair_tree (drop l.first (out-Pairs l.ps).items.items))))
    ≡ not_apart_from (guard_list l.g) (con_tree l.name) (names_of (pairs_from (map pair_tree (drop l.i (out-Pairs l.ps).items.items))))
