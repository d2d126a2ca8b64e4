use Rattle.std.proofs.Common.{◌≢◌, ◌<◌, ◌≤◌, length, sym, ◌∙◌, arith}
use Rattle.core_terms.specs.declared.pat.PatForm.TheViews.{out-PatFields}
use Rattle.plain_tree.specs.declared.pat.PatForm.TheViews as plain
use Rattle.source_names.specs.View.{scope_view}
use Rattle.source_terms.proofs.Pairs.{both_differ, both_fail, both_more, both_end}
use Rattle.source_terms.proofs.PatternReading.{fields_whole}
use Rattle.source_terms.proofs.patterns.+reads.Goals as goal

pub read_fields-loop-i-init : goal.read_fields-loop-i-init
read_fields-loop-i-init t c = fields_whole (scope_view c.args.s.now) c.args.fs.now c.args.gs.now

pub read_fields-returns-then-len : goal.read_fields-returns-then-len
read_fields-returns-then-len t c =
    let xs = (plain.out-PatFields c.args.fs.now).items in
    let ys = (out-PatFields c.args.gs.now).items in
    let h : length xs.items ≢ length ys.items = (λ e. c.if-len.true (omega (arith, xs.ok.0, ys.ok.0))) in
    sym (fields_whole (scope_view c.args.s.now) c.args.fs.now c.args.gs.now ∙ both_differ _ xs.items ys.items h)

pub read_fields-returns-then-not-branch : goal.read_fields-returns-then-not-branch
read_fields-returns-then-not-branch t c =
    let xs = (plain.out-PatFields c.args.fs.now).items in
    let ys = (out-PatFields c.args.gs.now).items in
    let one : c.loop-i.i < length xs.items = omega (arith, xs.ok.0) in
    let other : c.loop-i.i < length ys.items = omega (arith, xs.ok.0, ys.ok.0) in
    both_fail _ xs.items ys.items c.loop-i.i _ _ _ one other c.index.ensures c.index-in-loop-i.ensures
    c.loop-i.invariant (sym c.if-not-branch.true ∙ c.in_ok-reads_field.ensures)

pub read_fields-loop-i-preserved : goal.read_fields-loop-i-preserved
read_fields-loop-i-preserved t c =
    let xs = (plain.out-PatFields c.args.fs.now).items in
    let ys = (out-PatFields c.args.gs.now).items in
    let one : c.loop-i.i < length xs.items = omega (arith, xs.ok.0) in
    let other : c.loop-i.i < length ys.items = omega (arith, xs.ok.0, ys.ok.0) in
    both_more _ xs.items ys.items c.loop-i.i _ _ _ one other c.index.ensures c.index-in-loop-i.ensures
    c.loop-i.invariant (sym c.if-not-branch.false ∙ c.in_ok-reads_field.ensures)

pub read_fields-returns : goal.read_fields-returns
read_fields-returns t c =
    let xs = (plain.out-PatFields c.args.fs.now).items in
    let ys = (out-PatFields c.args.gs.now).items in
    let one : length xs.items ≤ c.loop-i.i = omega (arith, xs.ok.0) in
    let other : length ys.items ≤ c.loop-i.i = omega (arith, xs.ok.0, ys.ok.0) in
    both_end _ xs.items ys.items c.loop-i.i _ one other c.loop-i.invariant
