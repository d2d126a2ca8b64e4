use Rattle.std.proofs.Common.{◌≡◌, drop, map}
use Rattle.con_terms.specs.View.{con_tree}
use Rattle.con_terms.specs.declared.con.Con.TheViews.{out-Cons}
use Rattle.judgements.specs.Pieces.{none_left, leaving}
use Rattle.judgements.specs.View.{leaving_tree}
use Rattle.judgements.proofs.pieces.without_piece.Given as goal

abbrev pub invariant-loop-i : goal.invariant-loop-i
invariant-loop-i l =
    leaving (con_tree l.out) (leaving_tree l.now) (map con_tree (drop l.i (out-Cons l.pieces).items.items))
    ≡ leaving (con_tree l.out) none_left (map con_tree (out-Cons l.pieces).items.items)
