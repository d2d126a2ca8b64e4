use Rattle.std.proofs.Common.{◌<◌, ◌≤◌, [], length, arith}
use Rattle.core_terms.specs.View.{pat_tree}
use Rattle.core_terms.specs.declared.exp.Form.TheViews.{out-Branches, out-Branch}
use Rattle.pattern_rules.proofs.Asking.{pattern_is, asks_on, asks_all}
use Rattle.pattern_rules.proofs.cases.asked_of.Goals as goal

pub loop-i-init : goal.loop-i-init
loop-i-init c = c.in_ok-add.ensures [] c.new-asked.ensures

pub loop-i-preserved : goal.loop-i-preserved
loop-i-preserved c =
    let x = c.index.result.now in
    let more : c.loop-i.i < length (out-Branches c.args.more.now).items.items = omega (arith, (out-Branches c.args.more.now).items.ok.0) in
    asks_on (pat_tree c.args.p.now) (out-Branches c.args.more.now).items.items c.loop-i.i x (out-Branch x).pat _ _ _ _ more c.index.ensures (pattern_is x) c.loop-i.invariant c.in_ok-add-2.ensures

pub returns : goal.returns
returns c =
    let done : length (out-Branches c.args.more.now).items.items ≤ c.loop-i.i = omega (arith, (out-Branches c.args.more.now).items.ok.0) in
    asks_all (pat_tree c.args.p.now) c.args.more.now c.loop-i.i _ _ done c.loop-i.invariant
