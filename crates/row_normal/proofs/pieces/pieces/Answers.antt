use Rattle.std.proofs.Common.{◌∙◌, ◌++◌, ap, map, sym, subst, List}
use Rattle.con_terms.specs.Equal.{Equal}
use Rattle.con_terms.specs.Trees.{Cn, Kd}
use Rattle.con_terms.specs.View.{con_tree}
use Rattle.con_terms.specs.declared.con.Con.TheViews.{roll-Cons}
use Rattle.con_terms.proofs.Lists.{cons_listed}
use Rattle.row_normal.specs.Ordered.{joined}
use Rattle.row_normal.specs.Pieces.{IsInOrder, written_pieces}
use Rattle.row_normal.proofs.OrderEqual.{written_equal}
use Rattle.row_normal.proofs.PiecesWritten.{written_in_order}
use Rattle.row_normal.proofs.pieces.pieces.Goals as goal

pub returns-clause-written : goal.returns-clause-written
returns-clause-written c =
    cons_listed (roll-Cons (record { items = c.add_pieces.new.pieces }))
    ∙ c.in_ok-add_pieces.ensures
    ∙ ap (λ ps. map con_tree ps ++ written_pieces (con_tree c.args.row)) c.new-items.ensures.items

pub returns-clause-equal : goal.returns-clause-equal
returns-clause-equal c =
    let P : List Cn → Type 0 = λ ps. (k : Kd) → Equal (con_tree c.args.row) (joined k ps) in
    subst P (sym (returns-clause-written c)) (λ k. written_equal k (con_tree c.args.row))

pub returns-clause-order : goal.returns-clause-order
returns-clause-order c =
    let P : List Cn → Type 0 = λ ps. IsInOrder (con_tree c.args.row) ps in
    λ h. subst P (sym (returns-clause-written c)) (written_in_order (con_tree c.args.row) h)
