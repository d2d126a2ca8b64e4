use Rattle.std.proofs.Common.{◌≡◌, drop, map}
use Rattle.con_terms.specs.View.{con_tree}
use Rattle.con_terms.specs.declared.con.Con.TheViews.{out-Cons}
use Rattle.judgements.specs.Pieces.{none_taken, taking}
use Rattle.judgements.specs.View.{taking_tree}
use Rattle.judgements.proofs.pieces.field_among.Given as goal

abbrev pub invariant-loop-i : goal.invariant-loop-i
invariant-loop-i l =
    taking (con_tree l.name) (taking_tree l.now) (map con_tree (drop l.i (out-Cons l.pieces).items.items))
    ≡ taking (con_tree l.name) none_taken (map con_tree (out-Cons l.pieces).items.items)
