use Rattle.std.proofs.Common.{◌≡◌, [], ◌∷◌, map, Option, ap, subst, ◌∙◌, arith}
use Rattle.std.proofs.lemmas.List.{map-append}
use Rattle.con_terms.specs.View.{con_tree, kind_tree}
use Rattle.core_terms.specs.Lists.{branch_list, branch_tree, local_list, local_tree}
use Rattle.core_terms.specs.Trees.{Pt, Ex, fn}
use Rattle.core_terms.specs.View.{branches_tree, exp_tree, form_tree, locals_tree, named_list_tree, pat_tree}
use Rattle.judgements.specs.View.{judged_tree, sc_view}
use Rattle.markup_rules.specs.View.{judgements_view}
use Rattle.node_rules.specs.Locals.{none_yet}
use Rattle.node_rules.specs.View.{found_tree}
use Rattle.pattern_rules.specs.View.{cases_tree}
use Rattle.judged_terms.specs.Judge.{PartJudges}
use Rattle.core_checker.specs.Parts.{part_terms}
use Rattle.core_checker.proofs.Listed.{parts_step, parts_end, locals_step, branches_step}
use Rattle.core_checker.proofs.Steps.{exp_judges, fn_form, rec_form, fn_con_of, rec_local}
use Rattle.core_checker.proofs.terms.+judge.Goals as goal

pub judge-returns-in-Fn : goal.judge-returns-in-Fn
judge-returns-in-Fn t c =
    let q : pat_tree c.in-Fn.q.value ≡ pat_tree c.deref.result.now = (let h = c.deref.ensures in cc) in
    let b : exp_tree c.in-Fn.body.value ≡ exp_tree c.deref-in-Fn.result.now = (let h = c.deref-in-Fn.ensures in cc) in
    exp_judges c.judge_fn.result judged_tree (sc_view c.args.g.now c.args.s.now) c.args.e.now
    (fn (pat_tree c.deref.result.now) (con_tree c.in-Fn.t) (exp_tree c.deref-in-Fn.result.now))
    (ap form_tree c.in-Fn.is ∙ fn_form c.in-Fn.q c.in-Fn.t c.in-Fn.body
    ∙ ap (λ (z : Pt). fn z (con_tree c.in-Fn.t) (exp_tree c.in-Fn.body.value)) q
    ∙ ap (λ (z : Ex). fn (pat_tree c.deref.result.now) (con_tree c.in-Fn.t) z) b)
    c.judge_fn.ensures

pub judge_fn_con-returns : goal.judge_fn_con-returns
judge_fn_con-returns t c =
    fn_con_of c.of_fn_con.result judged_tree (sc_view c.args.g.now c.args.s.now) (sc_view c.args.g.now c.in_ok-inner.inner) c.args.x.number c.args.implicit
    (kind_tree c.args.k.now) (exp_tree c.args.body.now) (judged_tree c.in_ok-found.found) (c.in_ok-inner.ensures c.args.g.now) c.in_ok-found.ensures c.of_fn_con.ensures

pub judge_parts-loop-i-preserved : goal.judge_parts-loop-i-preserved
judge_parts-loop-i-preserved t c =
    parts_step (sc_view c.args.g.now c.args.s.now) (part_terms c.args.parts) c.loop-i.i
    (map judged_tree c.loop-i.items.items) (map judged_tree c.push.new.self.items) (judged_tree c.in_ok-found.found)
    (omega (arith, c.loop-i-test.true, c.len-i-end.ensures))
    (subst (λ (o : Option Ex). PartJudges (sc_view c.args.g.now c.args.s.now) o (judged_tree c.in_ok-found.found)) c.at.ensures c.in_ok-found.ensures)
    (ap (map judged_tree) c.in_ok-push.ensures.items ∙ map-append judged_tree c.loop-i.items.items (c.in_ok-found.found ∷ []))
    c.loop-i.invariant

pub judge_parts-returns : goal.judge_parts-returns
judge_parts-returns t c =
    parts_end (sc_view c.args.g.now c.args.s.now) (part_terms c.args.parts) c.loop-i.i (map judged_tree c.loop-i.items.items)
    (omega (arith, c.loop-i-test.false, c.len-i-end.ensures)) c.loop-i.invariant

pub judge_later-loop-i-preserved : goal.judge_later-loop-i-preserved
judge_later-loop-i-preserved t c =
    branches_step (sc_view c.args.g.now c.args.s.now) (con_tree c.args.t.now) (branch_list (branches_tree c.args.bs.now)) c.loop-i.i (branch_tree c.at.result.now)
    (cases_tree c.args.first) (cases_tree c.loop-i.now) (cases_tree c.in_ok-now.now) (branches_tree c.args.bs.now) c.at.ensures c.in_ok-now.ensures c.loop-i.invariant

pub judge_locals-loop-i-preserved : goal.judge_locals-loop-i-preserved
judge_locals-loop-i-preserved t c =
    locals_step (local_list (locals_tree c.args.ls.now)) c.loop-i.i (local_tree c.at.result.now)
    (sc_view c.args.g.now c.args.s.now) (sc_view c.args.g.now c.loop-i.now.here) (sc_view c.args.g.now c.in_ok-next.next.here)
    none_yet (found_tree c.loop-i.now.past) (found_tree c.in_ok-next.next.past) (locals_tree c.args.ls.now) c.at.ensures c.in_ok-next.ensures c.loop-i.invariant

pub judge_local-returns-in_ok-found-in-ValRec : goal.judge_local-returns-in_ok-found-in-ValRec
judge_local-returns-in_ok-found-in-ValRec t c =
    rec_local c.behind_values.result (λ r. sc_view c.args.g.now r.here) (λ r. found_tree r.past)
    (sc_view c.args.g.now c.args.before.here) (sc_view c.args.g.now c.in_ok-inner-in-ValRec.inner) (found_tree c.args.before.past) (local_tree c.args.l.now)
    (named_list_tree c.in-ValRec.ns) (judgements_view c.in_ok-found-in-ValRec.found) (ap local_tree c.in-ValRec.is ∙ rec_form c.in-ValRec.ns)
    (c.in_ok-inner-in-ValRec.ensures c.args.g.now) c.in_ok-found-in-ValRec.ensures c.behind_values.ensures.here c.behind_values.ensures.past
