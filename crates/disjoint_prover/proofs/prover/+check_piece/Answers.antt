use Rattle.std.proofs.Common.{refl, ap, sym, subst, ◌∙◌, arith, Option}
use Rattle.std.proofs.lemmas.Result.{err_from_is_err_and}
use Rattle.con_terms.specs.Trees.{Cn}
use Rattle.con_terms.specs.View.{con_tree}
use Rattle.disjoint_prover.specs.Separation.{first_of, with_each}
use Rattle.disjoint_prover.specs.View.{Tells, guard_list}
use Rattle.disjoint_prover.proofs.Pieces.{each_cat_err, each_cat_ok, names_step, names_end, gives_err, gives_ok, next_err, next_ok}
use Rattle.disjoint_prover.proofs.Trees.{tree_cat}
use Rattle.disjoint_prover.proofs.prover.+check_piece.Goals as goal

pub check_piece-returns-in_err-check_piece-in-Cat : goal.check_piece-returns-in_err-check_piece-in-Cat
check_piece-returns-in_err-check_piece-in-Cat t c =
    let p = err_from_is_err_and c.from_residual.result c.from_residual.ensures.1 in
    rw (p.1, p.2) (each_cat_err (guard_list c.args.g.now) (con_tree c.args.piece.now) (con_tree c.args.right.now) _ _
    (tree_cat c.args.right.now c.deref.result.now c.in-Cat.b.value c.in-Cat.a c.in-Cat.b c.in-Cat.is c.deref.ensures refl) _ c.in_err-check_piece-in-Cat.ensures)

pub check_piece-returns-in_ok-check_piece-in-Cat : goal.check_piece-returns-in_ok-check_piece-in-Cat
check_piece-returns-in_ok-check_piece-in-Cat t c =
    each_cat_ok (guard_list c.args.g.now) (con_tree c.args.piece.now) (con_tree c.args.right.now) _ _
    (tree_cat c.args.right.now c.deref.result.now c.deref-in-Cat.result.now c.in-Cat.a c.in-Cat.b c.in-Cat.is c.deref.ensures c.deref-in-Cat.ensures) _ c.in_ok-check_piece-in-Cat.ensures c.check_piece-in-Cat.ensures

pub check_each-returns-in_err-check_piece : goal.check_each-returns-in_err-check_piece
check_each-returns-in_err-check_piece t c =
    let p = err_from_is_err_and c.from_residual.result c.from_residual.ensures.1 in
    let P : Option (Cn × Cn) → Type 0 = λ o. Tells c.in_err-check_piece.field-0.0 o in
    rw (p.1, p.2) (subst P (sym c.loop-i.invariant) (next_err (guard_list c.args.g.now) (con_tree c.args.piece.now) _ _ _ (names_step c.args.ps.now c.loop-i.i _ (omega arith) c.index.ensures) _ (gives_err _ _ _ c.in_err-check_piece.was c.check_piece.ensures)))

pub check_each-loop-i-preserved : goal.check_each-loop-i-preserved
check_each-loop-i-preserved t c =
    c.loop-i.invariant ∙ next_ok (guard_list c.args.g.now) (con_tree c.args.piece.now) _ _ _ (names_step c.args.ps.now c.loop-i.i _ (omega arith) c.index.ensures) (gives_ok _ _ _ c.in_ok-check_piece.was c.check_piece.ensures)

pub check_each-returns : goal.check_each-returns
check_each-returns t c = c.loop-i.invariant ∙ ap (λ xs. first_of (guard_list c.args.g.now) (with_each (con_tree c.args.piece.now) xs)) (names_end c.args.ps.now c.loop-i.i (omega arith))
