use Rattle.std.proofs.Common.{◌≢◌, ◌<◌, ◌≤◌, ◌&&◌, length, ap, sym, ◌∙◌, arith}
use Rattle.core_terms.specs.declared.exp.Form.TheViews.{out-Attributes}
use Rattle.plain_tree.specs.declared.exp.Form.TheViews as plain
use Rattle.source_names.specs.View.{scope_view}
use Rattle.source_terms.proofs.Listed.{attributes_whole}
use Rattle.source_terms.proofs.Pairs.{whole_begins, whole_differs, whole_fails, whole_goes_on, whole_ends}
use Rattle.source_terms.proofs.markup.are_attributes.Goals as goal

pub loop-i-init : goal.loop-i-init
loop-i-init c = whole_begins _ _ _ (attributes_whole (scope_view c.args.s.now) c.args.bs.now c.args.cs.now)

pub returns-then-len : goal.returns-then-len
returns-then-len c =
    let xs = (plain.out-Attributes c.args.bs.now).items in
    let ys = (out-Attributes c.args.cs.now).items in
    let h : length xs.items ≢ length ys.items = (λ e. c.if-len.true (omega (arith, xs.ok.0, ys.ok.0))) in
    whole_differs _ xs.items ys.items _ _ h (attributes_whole (scope_view c.args.s.now) c.args.bs.now c.args.cs.now)

pub returns-then-not-branch : goal.returns-then-not-branch
returns-then-not-branch c =
    let xs = (plain.out-Attributes c.args.bs.now).items in
    let ys = (out-Attributes c.args.cs.now).items in
    let one : c.loop-i.i < length xs.items = omega (arith, xs.ok.0) in
    let other : c.loop-i.i < length ys.items = omega (arith, xs.ok.0, ys.ok.0) in
    whole_fails _ xs.items ys.items c.loop-i.i _ _ _ _ _ _ one other c.index.ensures c.index-in-loop-i.ensures
    c.loop-i.invariant c.if-not-branch.true c.in_ok-is_attribute.ensures

pub loop-i-preserved : goal.loop-i-preserved
loop-i-preserved c =
    let xs = (plain.out-Attributes c.args.bs.now).items in
    let ys = (out-Attributes c.args.cs.now).items in
    let one : c.loop-i.i < length xs.items = omega (arith, xs.ok.0) in
    let other : c.loop-i.i < length ys.items = omega (arith, xs.ok.0, ys.ok.0) in
    whole_goes_on _ xs.items ys.items c.loop-i.i _ _ _ _ _ _ one other c.index.ensures c.index-in-loop-i.ensures
    c.loop-i.invariant c.if-not-branch.false c.in_ok-is_attribute.ensures

pub returns : goal.returns
returns c =
    let xs = (plain.out-Attributes c.args.bs.now).items in
    let ys = (out-Attributes c.args.cs.now).items in
    let one : length xs.items ≤ c.loop-i.i = omega (arith, xs.ok.0) in
    let other : length ys.items ≤ c.loop-i.i = omega (arith, xs.ok.0, ys.ok.0) in
    whole_ends _ xs.items ys.items c.loop-i.i _ _ one other c.loop-i.invariant
