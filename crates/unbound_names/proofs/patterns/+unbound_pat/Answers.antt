use Rattle.std.proofs.Common.{◌≡◌, ◌+◌, ◌<◌, ◌≤◌, length, map, drop, refl, ap, sym, ◌∙◌, arith}
use Rattle.plain_tree.specs.ConView as view
use Rattle.plain_tree.specs.declared.pat.PatForm.TheViews as views
use Rattle.unbound_names.specs.Patterns.{unbound_pat_field, unbound_pat_fields}
use Rattle.unbound_names.specs.View.{around_view, ask_view}
use Rattle.unbound_names.proofs.Found.{found, passed, ended}
use Rattle.unbound_names.proofs.patterns.+unbound_pat.Goals as goal

pub unbound_fields-returns-then-branch : goal.unbound_fields-returns-then-branch
unbound_fields-returns-then-branch t c =
    let xs = (views.out-PatFields c.args.fs.now).items in
    let h : c.loop-i.i < length xs.items = omega (arith, xs.ok.0) in
    found (λ zs. unbound_pat_fields (ask_view c.args.q.now) (around_view c.args.s.now) (view.pat_fields_from (map view.pat_field_tree zs)))
    xs.items c.loop-i.i c.index.result.now _ (unbound_pat_field (ask_view c.args.q.now) (around_view c.args.s.now) (view.pat_field_tree c.index.result.now))
    (unbound_pat_fields (ask_view c.args.q.now) (around_view c.args.s.now) (view.pat_fields_from (map view.pat_field_tree (drop (c.loop-i.i + 1) xs.items))))
    h c.index.ensures c.loop-i.invariant refl (sym c.in_ok-unbound_field.ensures ∙ c.if-branch.true)

pub unbound_fields-loop-i-preserved : goal.unbound_fields-loop-i-preserved
unbound_fields-loop-i-preserved t c =
    let xs = (views.out-PatFields c.args.fs.now).items in
    let h : c.loop-i.i < length xs.items = omega (arith, xs.ok.0) in
    passed (λ zs. unbound_pat_fields (ask_view c.args.q.now) (around_view c.args.s.now) (view.pat_fields_from (map view.pat_field_tree zs)))
    xs.items c.loop-i.i c.index.result.now _ (unbound_pat_field (ask_view c.args.q.now) (around_view c.args.s.now) (view.pat_field_tree c.index.result.now))
    (unbound_pat_fields (ask_view c.args.q.now) (around_view c.args.s.now) (view.pat_fields_from (map view.pat_field_tree (drop (c.loop-i.i + 1) xs.items))))
    h c.index.ensures c.loop-i.invariant refl (sym c.in_ok-unbound_field.ensures ∙ c.if-branch.false)

pub unbound_fields-returns : goal.unbound_fields-returns
unbound_fields-returns t c =
    let xs = (views.out-PatFields c.args.fs.now).items in
    let h : length xs.items ≤ c.loop-i.i = omega (arith, xs.ok.0) in
    ended (λ zs. unbound_pat_fields (ask_view c.args.q.now) (around_view c.args.s.now) (view.pat_fields_from (map view.pat_field_tree zs)))
    xs.items c.loop-i.i _ h c.loop-i.invariant refl
