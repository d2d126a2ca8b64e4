use Rattle.std.proofs.Common.{◌<◌, ◌≤◌, length, arith, ap, sym, ◌∙◌}
use Rattle.core_terms.specs.declared.exp.Form.TheViews.{out-Items}
use Rattle.source_terms.specs.Left.{is_empty}
use Rattle.source_terms.proofs.Leaving.{items_whole, items_passed, items_stand, items_end}
use Rattle.source_terms.proofs.standing.none_left.Goals as goal

pub loop-i-init : goal.loop-i-init
loop-i-init c = ap is_empty (items_whole c.args.items.now)

pub returns-then-is_left : goal.returns-then-is_left
returns-then-is_left c =
    let is = (out-Items c.args.items.now).items in
    let h : c.loop-i.i < length is.items = omega (arith, is.ok.0) in
    items_stand _ is.items c.loop-i.i _ h c.index.ensures c.loop-i.invariant (sym c.if-is_left.true
    ∙ c.is_left.ensures)

pub loop-i-preserved : goal.loop-i-preserved
loop-i-preserved c =
    let is = (out-Items c.args.items.now).items in
    let h : c.loop-i.i < length is.items = omega (arith, is.ok.0) in
    items_passed is_empty _ is.items c.loop-i.i _ h c.index.ensures c.loop-i.invariant (sym c.if-is_left.false
    ∙ c.is_left.ensures)

pub returns : goal.returns
returns c =
    let is = (out-Items c.args.items.now).items in
    let h : length is.items ≤ c.loop-i.i = omega (arith, is.ok.0) in
    items_end is_empty _ is.items c.loop-i.i h c.loop-i.invariant
