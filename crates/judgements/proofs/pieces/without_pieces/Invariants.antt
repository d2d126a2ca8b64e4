use Rattle.std.proofs.Common.{◌≡◌, drop, map}
use Rattle.con_terms.specs.View.{con_tree}
use Rattle.con_terms.specs.declared.con.Con.TheViews.{out-Cons}
use Rattle.core_typing.specs.Compared.{without_pieces}
use Rattle.judgements.specs.View.{cons_view}
use Rattle.judgements.proofs.pieces.without_pieces.Given as goal

abbrev pub invariant-loop-i : goal.invariant-loop-i
invariant-loop-i l =
    without_pieces (map con_tree (drop l.i (out-Cons l.out).items.items)) (cons_view l.rest)
    ≡ without_pieces (cons_view l.out) (cons_view l.fn.pieces)
