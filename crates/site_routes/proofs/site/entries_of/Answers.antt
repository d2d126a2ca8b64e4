use Rattle.std.proofs.Common.{◌≡◌, ◌<◌, ◌≤◌, length, map, arith}
use Rattle.con_terms.specs.View.{con_tree}
use Rattle.core_terms.specs.View.{datatype_view, program_view}
use Rattle.carried_types.specs.View.{carriers_view}
use Rattle.core_typing.specs.Declarations.{values}
use Rattle.site_routes.specs.View.{kept_view, targets_view, value_view}
use Rattle.site_routes.proofs.Listed.{as_many, so_far_all, so_far_more, tells_by, view_at}
use Rattle.site_routes.proofs.site.entries_of.Goals as goal

pub loop-i-preserved : goal.loop-i-preserved
loop-i-preserved c = λ k.
    let p = program_view c.args.p.now in
    let vs = c.in_ok-values.values in
    let h : c.loop-i.i < length vs.items = omega (arith, vs.ok.0) in
    let l : c.loop-i.i < c.len-count.result = omega arith in
    so_far_more p (map value_view vs.items) c.loop-i.i (value_view c.index.result.now) (kept_view c.loop-i.all) (kept_view c.add_entries.new.all) c.in_ok-values.ensures
    (view_at vs.items c.loop-i.i c.index.result.now c.index.ensures h)
    (c.in_ok-add_entries.ensures c.len-count.result k (tells_by p c.len-count.result (targets_view c.in_ok-called.called) c.in_ok-called.ensures) c.in_ok-exports.ensures l)
    (c.loop-i.invariant k)

pub returns : goal.returns
returns c = λ k.
    let p = program_view c.args.p.now in
    let vs = c.in_ok-values.values in
    let n = as_many p vs.items c.in_ok-values.ensures in
    so_far_all p c.loop-i.i (kept_view c.loop-i.all) (omega (arith, vs.ok.0, n)) (c.loop-i.invariant k)
