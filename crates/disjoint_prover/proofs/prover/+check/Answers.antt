use Rattle.std.proofs.Common.{refl, ap, sym, subst, ◌∙◌, arith, Option}
use Rattle.std.proofs.lemmas.Result.{err_from_is_err_and}
use Rattle.con_terms.specs.Trees.{Cn}
use Rattle.con_terms.specs.Apart.{pieces}
use Rattle.con_terms.specs.View.{con_tree}
use Rattle.disjoint_prover.specs.Separation.{first_of, pairs_of}
use Rattle.disjoint_prover.specs.View.{Tells, guard_list}
use Rattle.disjoint_prover.proofs.Pieces.{touch_cat_err, touch_cat_ok, names_step, names_end, gives_err, gives_ok, name_err, name_ok}
use Rattle.disjoint_prover.proofs.Trees.{tree_cat}
use Rattle.disjoint_prover.proofs.prover.+check.Goals as goal

pub check-returns-in_err-check-in-Cat : goal.check-returns-in_err-check-in-Cat
check-returns-in_err-check-in-Cat t c =
    let p = err_from_is_err_and c.from_residual.result c.from_residual.ensures.1 in
    rw (p.1, p.2) (touch_cat_err (guard_list c.args.g.now) (con_tree c.args.right.now) (con_tree c.args.left.now) _ _
    (tree_cat c.args.left.now c.deref.result.now c.in-Cat.b.value c.in-Cat.a c.in-Cat.b c.in-Cat.is c.deref.ensures refl) _ c.in_err-check-in-Cat.ensures)

pub check-returns-in_ok-check-in-Cat : goal.check-returns-in_ok-check-in-Cat
check-returns-in_ok-check-in-Cat t c =
    touch_cat_ok (guard_list c.args.g.now) (con_tree c.args.right.now) (con_tree c.args.left.now) _ _
    (tree_cat c.args.left.now c.deref.result.now c.deref-in-Cat.result.now c.in-Cat.a c.in-Cat.b c.in-Cat.is c.deref.ensures c.deref-in-Cat.ensures) _ c.in_ok-check-in-Cat.ensures c.check-in-Cat.ensures

pub check_names-returns-in_err-check : goal.check_names-returns-in_err-check
check_names-returns-in_err-check t c =
    let p = err_from_is_err_and c.from_residual.result c.from_residual.ensures.1 in
    let P : Option (Cn × Cn) → Type 0 = λ o. Tells c.in_err-check.field-0.0 o in
    rw (p.1, p.2) (subst P (sym c.loop-i.invariant) (name_err (guard_list c.args.g.now) _ _ _ (pieces (con_tree c.args.right.now)) (names_step c.args.ps.now c.loop-i.i _ (omega arith) c.index.ensures) _ (gives_err _ _ _ c.in_err-check.was c.check.ensures)))

pub check_names-loop-i-preserved : goal.check_names-loop-i-preserved
check_names-loop-i-preserved t c =
    c.loop-i.invariant ∙ name_ok (guard_list c.args.g.now) _ _ _ (pieces (con_tree c.args.right.now)) (names_step c.args.ps.now c.loop-i.i _ (omega arith) c.index.ensures) (gives_ok _ _ _ c.in_ok-check.was c.check.ensures)

pub check_names-returns : goal.check_names-returns
check_names-returns t c = c.loop-i.invariant ∙ ap (λ xs. first_of (guard_list c.args.g.now) (pairs_of xs (pieces (con_tree c.args.right.now)))) (names_end c.args.ps.now c.loop-i.i (omega arith))
