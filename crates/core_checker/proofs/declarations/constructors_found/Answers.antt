use Rattle.std.proofs.Common.{◌<◌, length, arith}
use Rattle.judgements.specs.View.{sc_view}
use Rattle.node_rules.specs.View.{found_tree}
use Rattle.core_checker.proofs.DeclSteps.{constructors_on}
use Rattle.core_checker.proofs.declarations.constructors_found.Goals as goal

pub loop-i-preserved : goal.loop-i-preserved
loop-i-preserved c =
    let xs = c.args.cs.now.items in
    let h : c.loop-i.i < length xs.items = omega (arith, xs.ok.0) in
    constructors_on (sc_view c.args.g.now c.args.s.now) xs.items c.loop-i.i (found_tree c.loop-i.now)
    (found_tree c.in_ok-next.next) (found_tree c.and_then_found-now.result) _ h c.in_ok-next.ensures
    c.and_then_found-now.ensures c.loop-i.invariant
