use Rattle.std.proofs.Common.{◌≡◌, map, drop}
use Rattle.con_terms.specs.Apart.{pieces, name_pieces}
use Rattle.con_terms.specs.View.{con_tree, pair_tree, pairs_tree, pairs_from}
use Rattle.con_terms.specs.declared.con.Con.TheViews.{size-Con, size-Pairs}
use Rattle.con_terms.specs.declared.con.Pairs.{out-Pairs}
use Rattle.disjoint_prover.specs.Separation.{first_of, pairs_of}
use Rattle.disjoint_prover.specs.View.{guard_list}
use Rattle.disjoint_prover.proofs.prover.+check.Given as goal

abbrev pub invariant-check_names-loop-i : goal.invariant-check_names-loop-i
invariant-check_names-loop-i l =
    first_of (guard_list l.g) (pairs_of (name_pieces (pairs_tree l.ps)) (pieces (con_tree l.right)))
    ≡ first_of (guard_list l.g) (pairs_of (name_pieces (pairs_from (map pair_tree (drop l.i (out-Pairs l.ps).items.items)))) (pieces (con_tree l.right)))

abbrev pub decreases-check : goal.decreases-check
decreases-check l = size-Con l.left.now

abbrev pub decreases-check_names : goal.decreases-check_names
decreases-check_names l = size-Pairs l.ps.now
