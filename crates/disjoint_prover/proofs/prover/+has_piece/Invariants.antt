use Rattle.std.proofs.Common.{◌≡◌, map, drop}
use Rattle.con_terms.specs.Apart.{name_pieces}
use Rattle.con_terms.specs.View.{con_tree, pair_tree, pairs_tree, pairs_from}
use Rattle.con_terms.specs.declared.con.Con.TheViews.{size-Con, size-Pairs}
use Rattle.con_terms.specs.declared.con.Pairs.{out-Pairs}
use Rattle.disjoint_prover.specs.Separation.{among}
use Rattle.disjoint_prover.proofs.prover.+has_piece.Given as goal

abbrev pub invariant-has_name-loop-i : goal.invariant-has_name-loop-i
invariant-has_name-loop-i l =
    among (con_tree l.piece) (name_pieces (pairs_tree l.ps))
    ≡ among (con_tree l.piece) (name_pieces (pairs_from (map pair_tree (drop l.i (out-Pairs l.ps).items.items))))

abbrev pub decreases-has_piece : goal.decreases-has_piece
decreases-has_piece l = size-Con l.row.now

abbrev pub decreases-has_name : goal.decreases-has_name
decreases-has_name l = size-Pairs l.ps.now
