use Rattle.std.proofs.Common.{◌<◌, ◌≤◌, length, arith}
use Rattle.wire_values.proofs.Given.{given_none, given_next, given_all}
use Rattle.wire_values.proofs.wires.values_of_wires.Goals as goal

pub loop-i-init : goal.loop-i-init
loop-i-init c = given_none c.args.shapes.now.items.items c.args.wires.now.items.items c.new-values.result.items c.new-values.ensures.items

pub loop-i-preserved : goal.loop-i-preserved
loop-i-preserved c =
    let shape_there : c.loop-i.i < length c.args.shapes.now.items.items = omega (arith, c.loop-i-test.true, c.len-count.ensures, c.args.shapes.now.items.ok) in
    let wire_there : c.loop-i.i < length c.args.wires.now.items.items = omega (arith, c.loop-i-test.true, c.if-len-count.false, c.len.ensures, c.args.wires.now.items.ok) in
    given_next c.args.shapes.now.items.items c.args.wires.now.items.items c.loop-i.values.items c.push.new.self.items c.loop-i.i c.index.result.now c.index-in-loop-i.result.now c.in_ok-value_of.field-0
    shape_there c.index.ensures wire_there c.index-in-loop-i.ensures c.loop-i.invariant c.in_ok-value_of.ensures c.in_ok-push.ensures.items

pub returns : goal.returns
returns c =
    let shapes_done : length c.args.shapes.now.items.items ≤ c.loop-i.i = omega (arith, c.loop-i-test.false, c.len-count.ensures, c.args.shapes.now.items.ok) in
    let wires_done : length c.args.wires.now.items.items ≤ c.loop-i.i = omega (arith, c.loop-i-test.false, c.if-len-count.false, c.len.ensures, c.args.wires.now.items.ok) in
    record { given = given_all c.args.shapes.now c.args.wires.now c.loop-i.i shapes_done wires_done c.loop-i.invariant }
