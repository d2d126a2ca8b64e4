use Rattle.std.proofs.Common.{◌≡◌, map, drop}
use Rattle.con_terms.specs.Apart.{name_pieces}
use Rattle.con_terms.specs.View.{con_tree, pair_tree, pairs_tree, pairs_from}
use Rattle.con_terms.specs.declared.con.Con.TheViews.{size-Con, size-Pairs}
use Rattle.con_terms.specs.declared.con.Pairs.{out-Pairs}
use Rattle.disjoint_prover.specs.Separation.{first_of, with_each}
use Rattle.disjoint_prover.specs.View.{guard_list}
use Rattle.disjoint_prover.proofs.prover.+check_piece.Given as goal

abbrev pub invariant-check_each-loop-i : goal.invariant-check_each-loop-i
invariant-check_each-loop-i l =
    first_of (guard_list l.g) (with_each (con_tree l.piece) (name_pieces (pairs_tree l.ps)))
    ≡ first_of (guard_list l.g) (with_each (con_tree l.piece) (name_pieces (pairs_from (map pair_tree (drop l.i (out-Pairs l.ps).items.items)))))

abbrev pub decreases-check_piece : goal.decreases-check_piece
decreases-check_piece l = size-Con l.right.now

abbrev pub decreases-check_each : goal.decreases-check_each
decreases-check_each l = size-Pairs l.ps.now
