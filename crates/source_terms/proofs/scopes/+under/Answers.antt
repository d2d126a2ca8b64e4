use Rattle.std.proofs.Common.{◌<◌, ◌≤◌, length, arith}
use Rattle.plain_tree.specs.declared.pat.PatForm.TheViews.{out-PatFields}
use Rattle.source_names.specs.View.{scope_view}
use Rattle.source_terms.proofs.Scoping.{fields_whole, fields_more, fields_end}
use Rattle.source_terms.proofs.scopes.+under.Goals as goal

pub under_fields-loop-i-init : goal.under_fields-loop-i-init
under_fields-loop-i-init t c = fields_whole (scope_view c.args.s) c.args.fs.now

pub under_fields-loop-i-preserved : goal.under_fields-loop-i-preserved
under_fields-loop-i-preserved t c =
    let fs = (out-PatFields c.args.fs.now).items in
    let h : c.loop-i.i < length fs.items = omega (arith, fs.ok.0) in
    fields_more _ _ _ fs.items c.loop-i.i _ h c.index.ensures c.loop-i.invariant c.in_ok-here.ensures

pub under_fields-returns : goal.under_fields-returns
under_fields-returns t c =
    let fs = (out-PatFields c.args.fs.now).items in
    let h : length fs.items ≤ c.loop-i.i = omega (arith, fs.ok.0) in
    fields_end _ _ fs.items c.loop-i.i h c.loop-i.invariant
