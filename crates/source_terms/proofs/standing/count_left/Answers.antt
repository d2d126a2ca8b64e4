use Rattle.std.proofs.Common.{◌<◌, ◌≤◌, length, arith, ap, sym, ◌∙◌}
use Rattle.core_terms.specs.declared.exp.Form.TheViews.{out-Items}
use Rattle.source_terms.specs.Parts.{count}
use Rattle.source_terms.proofs.Leaving.{items_whole}
use Rattle.source_terms.proofs.Counting.{count_on, count_past, count_end}
use Rattle.source_terms.proofs.standing.count_left.Goals as goal
use Rattle.source_terms.proofs.standing.count_left.Goals.{then-is_left, else-is_left}

pub loop-i-init : goal.loop-i-init
loop-i-init c = record { few = omega arith; whole = omega (arith, ap count (items_whole c.args.items.now)) }

pub loop-i-preserved : goal.loop-i-preserved
loop-i-preserved c =
    let is = (out-Items c.args.items.now).items in
    let h : c.loop-i.i < length is.items = omega (arith, is.ok.0) in
    elim c.if-is_left.branch [
      | then-is_left w ↦
          record {
            few = omega (arith, c.loop-i.invariant.few, w.count-is);
            whole = omega (
              arith,
              w.count-is,
              count_on _ _ is.items c.loop-i.i _ h c.index.ensures
                  c.loop-i.invariant.whole (sym w.if-is_left.true ∙ c.is_left.ensures),
            );
          }
      | else-is_left w ↦
          record {
            few = omega (arith, c.loop-i.invariant.few, w.count-is);
            whole = omega (
              arith,
              w.count-is,
              count_past _ _ is.items c.loop-i.i _ h c.index.ensures
                  c.loop-i.invariant.whole (sym w.if-is_left.false ∙ c.is_left.ensures),
            );
          }
    ]

pub returns : goal.returns
returns c =
    let is = (out-Items c.args.items.now).items in
    let h : length is.items ≤ c.loop-i.i = omega (arith, is.ok.0) in
    count_end _ _ is.items c.loop-i.i h c.loop-i.invariant.whole
