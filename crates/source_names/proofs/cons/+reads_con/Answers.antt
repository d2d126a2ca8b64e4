use Rattle.std.proofs.Common.{◌≡◌, ◌<◌, ◌∙◌, Bool, true, false, IfOk, option_map, None, Some, length, ap, sym, subst, rules, arith, Bor}
use Rattle.con_terms.specs.View.{con_tree, pair_tree}
use Rattle.con_terms.specs.declared.con.Con.{Con}
use Rattle.con_terms.specs.declared.con.Con.TheViews.{out-Cons, out-Pairs}
use Rattle.plain_tree.specs.ConView as plain
use Rattle.plain_tree.specs.declared.con.ConForm.TheViews as views
use Rattle.source_names.specs.Reading.{reads_con, reads_apps, reads_cats, reads_con_field}
use Rattle.source_names.specs.View.{scope_view}
use Rattle.source_names.proofs.Walked.{all_sources, first_fails, first_passes, second_fails, second_passes, apps_more, cats_more, applied_reads, joined_reads, cons_differ, cons_next, fields_differ, fields_next}
use Rattle.source_names.proofs.cons.+reads_con.Goals as goal

pub before_arguments-loop-left-init : goal.before_arguments-loop-left-init
before_arguments-loop-left-init t c =
    let xs = (views.out-Cons c.args.more.now).items in
    let count : c.len-left.result ≡ length xs.items = omega (arith, xs.ok.0, c.len-left.ensures) in
    record {
      within = omega (arith, count);
      same = λ first. ap (λ ds. reads_apps (scope_view c.args.s.now) ds first (con_tree c.args.con.now))
          (all_sources c.args.more.now c.len-left.result (omega (arith, count)));
    }

pub before_arguments-returns-in-None : goal.before_arguments-returns-in-None
before_arguments-returns-in-None t c = λ first.
    c.loop-left.invariant.same first
    ∙ apps_more (scope_view c.args.s.now) (views.out-Cons c.args.more.now).items.items c.loop-left.left
    c.index-part.result.now (con_tree c.loop-left.at.now) None first
    c.loop-left-test.true c.loop-left.invariant.within c.index-part.ensures c.in-None.ensures

pub before_arguments-returns-then-not-branch : goal.before_arguments-returns-then-not-branch
before_arguments-returns-then-not-branch t c = λ first.
    c.loop-left.invariant.same first
    ∙ apps_more (scope_view c.args.s.now) (views.out-Cons c.args.more.now).items.items c.loop-left.left
    c.index-part.result.now (con_tree c.loop-left.at.now)
    (Some (con_tree c.in-Some.two.left.now, con_tree c.in-Some.two.right.now)) first
    c.loop-left-test.true c.loop-left.invariant.within c.index-part.ensures c.in-Some.ensures
    ∙ second_fails _ _ (sym c.in_ok-reads_con-in-Some.ensures ∙ c.if-not-branch.true)

pub before_arguments-loop-left-preserved : goal.before_arguments-loop-left-preserved
before_arguments-loop-left-preserved t c = record {
  within = omega (arith, c.loop-left.invariant.within);
  same = λ first.
      c.loop-left.invariant.same first
      ∙ apps_more (scope_view c.args.s.now) (views.out-Cons c.args.more.now).items.items c.loop-left.left
      c.index-part.result.now (con_tree c.loop-left.at.now)
      (Some (con_tree c.in-Some.two.left.now, con_tree c.in-Some.two.right.now)) first
      c.loop-left-test.true c.loop-left.invariant.within c.index-part.ensures c.in-Some.ensures
      ∙ second_passes _ _ (sym c.in_ok-reads_con-in-Some.ensures ∙ c.if-not-branch.false);
}

pub before_rows-loop-left-init : goal.before_rows-loop-left-init
before_rows-loop-left-init t c =
    let xs = (views.out-Cons c.args.more.now).items in
    let count : c.len-left.result ≡ length xs.items = omega (arith, xs.ok.0, c.len-left.ensures) in
    record {
      within = omega (arith, count);
      same = λ first. ap (λ ds. reads_cats (scope_view c.args.s.now) ds first (con_tree c.args.con.now))
          (all_sources c.args.more.now c.len-left.result (omega (arith, count)));
    }

pub before_rows-returns-in-None : goal.before_rows-returns-in-None
before_rows-returns-in-None t c = λ first.
    c.loop-left.invariant.same first
    ∙ cats_more (scope_view c.args.s.now) (views.out-Cons c.args.more.now).items.items c.loop-left.left
    c.index-part.result.now (con_tree c.loop-left.at.now) None first
    c.loop-left-test.true c.loop-left.invariant.within c.index-part.ensures c.in-None.ensures

pub before_rows-returns-then-not-branch : goal.before_rows-returns-then-not-branch
before_rows-returns-then-not-branch t c = λ first.
    c.loop-left.invariant.same first
    ∙ cats_more (scope_view c.args.s.now) (views.out-Cons c.args.more.now).items.items c.loop-left.left
    c.index-part.result.now (con_tree c.loop-left.at.now)
    (Some (con_tree c.in-Some.two.left.now, con_tree c.in-Some.two.right.now)) first
    c.loop-left-test.true c.loop-left.invariant.within c.index-part.ensures c.in-Some.ensures
    ∙ second_fails _ _ (sym c.in_ok-reads_con-in-Some.ensures ∙ c.if-not-branch.true)

pub before_rows-loop-left-preserved : goal.before_rows-loop-left-preserved
before_rows-loop-left-preserved t c = record {
  within = omega (arith, c.loop-left.invariant.within);
  same = λ first.
      c.loop-left.invariant.same first
      ∙ cats_more (scope_view c.args.s.now) (views.out-Cons c.args.more.now).items.items c.loop-left.left
      c.index-part.result.now (con_tree c.loop-left.at.now)
      (Some (con_tree c.in-Some.two.left.now, con_tree c.in-Some.two.right.now)) first
      c.loop-left-test.true c.loop-left.invariant.within c.index-part.ensures c.in-Some.ensures
      ∙ second_passes _ _ (sym c.in_ok-reads_con-in-Some.ensures ∙ c.if-not-branch.false);
}

pub reads_con-returns-in-Some-2 : goal.reads_con-returns-in-Some-2
reads_con-returns-in-Some-2 t c =
    let P : Bool → Type 0 = λ z. IfOk c.reads_con-in-Some-2.result (λ b. b ≡ z) in
    let tree = λ (z : Bor Con). con_tree z.now in
    let same =
    applied_reads (scope_view c.args.s.now) c.args.c.now c.in-Apply.function c.in-Apply.arguments
    (con_tree c.args.con.now) (con_tree c.in-Some-2.applied.now) (option_map tree c.in_ok-applied-in-Apply.field-0)
    c.in-Apply.is c.in_ok-applied-in-Apply.ensures (ap (option_map tree) c.in-Some-2.is) in
    subst P same (rw (← c.deref-in-Some-2.ensures) c.reads_con-in-Some-2.ensures)

pub reads_con-returns-in-Some-3 : goal.reads_con-returns-in-Some-3
reads_con-returns-in-Some-3 t c =
    let P : Bool → Type 0 = λ z. IfOk c.reads_con-in-Some-3.result (λ b. b ≡ z) in
    let tree = λ (z : Bor Con). con_tree z.now in
    let same =
    joined_reads (scope_view c.args.s.now) c.args.c.now c.in-Concat.first c.in-Concat.more
    (con_tree c.args.con.now) (con_tree c.in-Some-3.row.now) (option_map tree c.in_ok-row-in-Concat.field-0)
    c.in-Concat.is c.in_ok-row-in-Concat.ensures (ap (option_map tree) c.in-Some-3.is) in
    subst P same (rw (← c.deref-in-Some-3.ensures) c.reads_con-in-Some-3.ensures)

pub reads_cons-returns-then-len : goal.reads_cons-returns-then-len
reads_cons-returns-then-len t c =
    let xs = (views.out-Cons c.args.cs.now).items in
    let ys = (out-Cons c.args.cons.now).items in
    sym (cons_differ (scope_view c.args.s.now) c.args.cs.now c.args.cons.now (λ e. omega (arith, xs.ok.0, ys.ok.0)))

pub reads_cons-returns-then-not-branch : goal.reads_cons-returns-then-not-branch
reads_cons-returns-then-not-branch t c =
    let xs = (views.out-Cons c.args.cs.now).items in
    let ys = (out-Cons c.args.cons.now).items in
    let here : c.loop-i.i < length xs.items = omega (arith, xs.ok.0) in
    let there : c.loop-i.i < length ys.items = omega (arith, xs.ok.0, ys.ok.0) in
    let e : reads_con (scope_view c.args.s.now) (plain.con_tree c.index.result.now)
    (con_tree c.index-in-loop-i.result.now) ≡ false = search rules in
    sym (c.loop-i.invariant
    ∙ cons_next (scope_view c.args.s.now) xs.items ys.items c.loop-i.i c.index.result.now
    c.index-in-loop-i.result.now c.index.ensures c.index-in-loop-i.ensures here there
    ∙ first_fails _ _ e)

pub reads_cons-loop-i-preserved : goal.reads_cons-loop-i-preserved
reads_cons-loop-i-preserved t c =
    let xs = (views.out-Cons c.args.cs.now).items in
    let ys = (out-Cons c.args.cons.now).items in
    let here : c.loop-i.i < length xs.items = omega (arith, xs.ok.0) in
    let there : c.loop-i.i < length ys.items = omega (arith, xs.ok.0, ys.ok.0) in
    let e : reads_con (scope_view c.args.s.now) (plain.con_tree c.index.result.now)
    (con_tree c.index-in-loop-i.result.now) ≡ true = search rules in
    c.loop-i.invariant
    ∙ cons_next (scope_view c.args.s.now) xs.items ys.items c.loop-i.i c.index.result.now
    c.index-in-loop-i.result.now c.index.ensures c.index-in-loop-i.ensures here there
    ∙ first_passes _ _ e

pub reads_fields-returns-then-len : goal.reads_fields-returns-then-len
reads_fields-returns-then-len t c =
    let xs = (views.out-ConFields c.args.fields.now).items in
    let ys = (out-Pairs c.args.pairs.now).items in
    sym
    (fields_differ (scope_view c.args.s.now) c.args.fields.now c.args.pairs.now (λ e. omega (arith, xs.ok.0, ys.ok.0)))

pub reads_fields-returns-then-not-branch : goal.reads_fields-returns-then-not-branch
reads_fields-returns-then-not-branch t c =
    let xs = (views.out-ConFields c.args.fields.now).items in
    let ys = (out-Pairs c.args.pairs.now).items in
    let here : c.loop-i.i < length xs.items = omega (arith, xs.ok.0) in
    let there : c.loop-i.i < length ys.items = omega (arith, xs.ok.0, ys.ok.0) in
    let e : reads_con_field (scope_view c.args.s.now) (plain.con_field_tree c.index.result.now)
    (pair_tree c.index-in-loop-i.result.now) ≡ false = search rules in
    sym (c.loop-i.invariant
    ∙ fields_next (scope_view c.args.s.now) xs.items ys.items c.loop-i.i c.index.result.now
    c.index-in-loop-i.result.now c.index.ensures c.index-in-loop-i.ensures here there
    ∙ first_fails _ _ e)

pub reads_fields-loop-i-preserved : goal.reads_fields-loop-i-preserved
reads_fields-loop-i-preserved t c =
    let xs = (views.out-ConFields c.args.fields.now).items in
    let ys = (out-Pairs c.args.pairs.now).items in
    let here : c.loop-i.i < length xs.items = omega (arith, xs.ok.0) in
    let there : c.loop-i.i < length ys.items = omega (arith, xs.ok.0, ys.ok.0) in
    let e : reads_con_field (scope_view c.args.s.now) (plain.con_field_tree c.index.result.now)
    (pair_tree c.index-in-loop-i.result.now) ≡ true = search rules in
    c.loop-i.invariant
    ∙ fields_next (scope_view c.args.s.now) xs.items ys.items c.loop-i.i c.index.result.now
    c.index-in-loop-i.result.now c.index.ensures c.index-in-loop-i.ensures here there
    ∙ first_passes _ _ e
