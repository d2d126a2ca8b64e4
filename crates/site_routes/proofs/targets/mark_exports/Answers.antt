use Rattle.std.proofs.Common.{◌<◌, ◌≤◌, length, arith}
use Rattle.site_routes.proofs.Marks.{numbers_end, numbers_on}
use Rattle.site_routes.proofs.targets.mark_exports.Goals as goal

pub loop-e-preserved : goal.loop-e-preserved
loop-e-preserved c =
    let xs = c.args.exports.now.items in
    let h : c.loop-e.e < length xs.items = omega (arith, xs.ok.0) in
    numbers_on xs.items c.loop-e.e c.index.result.now c.loop-e.marks.items c.set.new.marks.items _ c.index.ensures h c.set.ensures
    c.loop-e.invariant

pub returns : goal.returns
returns c =
    let xs = c.args.exports.now.items in
    let h : length xs.items ≤ c.loop-e.e = omega (arith, xs.ok.0) in
    numbers_end xs.items c.loop-e.e c.loop-e.marks.items _ h c.loop-e.invariant
