use Rattle.std.proofs.Common.{ℕ, List, Option, ap, ◌∙◌}
use Rattle.table_rows.specs.Shapes.{Sh}
use Rattle.table_rows.specs.View.{case_view}
use Rattle.link_router.proofs.Listed.{known_later, known_behind, nothing_known, told_false}
use Rattle.link_router.proofs.leaves.case_named.Goals as goal

pub loop-first-preserved : goal.loop-first-preserved
loop-first-preserved c = record {
  known = λ held h. c.loop-first.invariant.known held (known_later case_view (c.args.piece.now, held) c.in-Some.first.now c.loop-first.rest.now c.in-Some.others.now c.in-Some.ensures.cases.0 h);
  left = λ held h. known_behind case_view (c.args.piece.now, held) c.in-Some.first.now c.loop-first.rest.now c.in-Some.others.now c.in-Some.ensures.cases.0 (λ e. told_false c.are_same.ensures c.if-are_same.false (c.as_bytes.ensures ∙ ap (λ (x : List ℕ × Option Sh). x.0) e)) (c.loop-first.invariant.left held h);
}

pub returns-clause-none : goal.returns-clause-none
returns-clause-none c n = nothing_known case_view c.loop-first.rest.now (c.args.piece.now, n.0) c.in_default.ensures.cases (c.loop-first.invariant.left n.0 n.1)
