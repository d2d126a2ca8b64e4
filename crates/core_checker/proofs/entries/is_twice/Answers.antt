use Rattle.std.proofs.Common.{◌<◌, length, map, arith}
use Rattle.link_router.specs.View.{entry_view}
use Rattle.core_checker.proofs.EntryNames.{twice_here, never_twice, not_yet, entry_at}
use Rattle.core_checker.proofs.entries.is_twice.Goals as goal

pub returns-then-same : goal.returns-then-same
returns-then-same c =
    let xs = c.args.entries.now in
    let h : c.loop-i.i < length xs.items = omega (arith, xs.ok.0) in
    let g : c.args.j < length xs.items = omega (arith, xs.ok.0) in
    let l : c.loop-i.i < c.args.j = omega arith in
    twice_here (map entry_view xs.items) c.loop-i.i c.args.j (entry_view c.index-other.result.now) (entry_view c.index-entry.result.now) l
    (entry_at xs.items c.loop-i.i c.index-other.result.now c.index-other.ensures h) (entry_at xs.items c.args.j c.index-entry.result.now c.index-entry.ensures g)
    (c.is_same_call-same.ensures.0 c.if-same.true)

pub loop-i-preserved : goal.loop-i-preserved
loop-i-preserved c =
    let xs = c.args.entries.now in
    let h : c.loop-i.i < length xs.items = omega (arith, xs.ok.0) in
    let g : c.args.j < length xs.items = omega (arith, xs.ok.0) in
    not_yet (map entry_view xs.items) c.loop-i.i c.args.j (entry_view c.index-other.result.now) (entry_view c.index-entry.result.now) c.is_same_call-same.result
    (entry_at xs.items c.loop-i.i c.index-other.result.now c.index-other.ensures h) (entry_at xs.items c.args.j c.index-entry.result.now c.index-entry.ensures g)
    c.is_same_call-same.ensures c.if-same.false c.loop-i.invariant

pub returns : goal.returns
returns c = never_twice (map entry_view c.args.entries.now.items) c.loop-i.i c.args.j (omega arith) c.loop-i.invariant
