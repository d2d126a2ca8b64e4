use Rattle.std.proofs.Common.{◌≢◌, ◌<◌, ◌≤◌, ◌&&◌, length, ap, sym, ◌∙◌, arith}
use Rattle.core_terms.specs.Strip.{strip}
use Rattle.core_terms.specs.View.{exp_tree}
use Rattle.core_terms.specs.declared.exp.Form.TheViews.{out-Locals}
use Rattle.plain_tree.specs.ExpView as view
use Rattle.plain_tree.specs.declared.exp.Form.TheViews as plain
use Rattle.source_names.specs.View.{scope_view}
use Rattle.source_terms.specs.Leaves.{form_of}
use Rattle.source_terms.specs.Tasks.{all_read}
use Rattle.source_terms.specs.Terms.{reads_term}
use Rattle.source_terms.proofs.Walking.{locals_differ, locals_miss, locals_go, locals_stop}
use Rattle.source_terms.proofs.lets.are_locals.Goals as goal

pub returns-then-len : goal.returns-then-len
returns-then-len c =
    let xs = (plain.out-Locals c.args.ls.now).items in
    let ys = (out-Locals c.args.ms.now).items in
    let h : length xs.items ≢ length ys.items = (λ e. c.if-len.true (omega (arith, xs.ok.0, ys.ok.0))) in
    ap (λ b. b && all_read c.args.tasks.now.items) (locals_differ (scope_view c.args.s.now)
    (λ t. reads_term t (view.exp_tree c.args.e.now)
    (form_of (strip (exp_tree c.args.x.now)))) c.args.ls.now c.args.ms.now h)

pub returns-then-not-branch : goal.returns-then-not-branch
returns-then-not-branch c =
    let xs = (plain.out-Locals c.args.ls.now).items in
    let ys = (out-Locals c.args.ms.now).items in
    let one : c.loop-i.i < length xs.items = omega (arith, xs.ok.0) in
    let other : c.loop-i.i < length ys.items = omega (arith, xs.ok.0, ys.ok.0) in
    locals_miss _ _ xs.items ys.items c.loop-i.i _ _ _ _ _ _ one other c.index-local.ensures c.index.ensures
    c.loop-i.invariant c.if-not-branch.true c.in_ok-is_local.ensures

pub loop-i-preserved : goal.loop-i-preserved
loop-i-preserved c =
    let xs = (plain.out-Locals c.args.ls.now).items in
    let ys = (out-Locals c.args.ms.now).items in
    let one : c.loop-i.i < length xs.items = omega (arith, xs.ok.0) in
    let other : c.loop-i.i < length ys.items = omega (arith, xs.ok.0, ys.ok.0) in
    locals_go (scope_view c.loop-i.here) _ _ xs.items ys.items c.loop-i.i _ _ _ _ _ _ one other
    c.index-local.ensures c.index.ensures c.loop-i.invariant c.if-not-branch.false c.in_ok-is_local.ensures
    c.in_ok-here-2.ensures
