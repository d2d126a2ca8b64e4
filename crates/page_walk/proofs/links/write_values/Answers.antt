use Rattle.std.proofs.Common.{rules, arith, length, ◌-◌, ◌+◌, [], map}
use Rattle.std.proofs.lemmas.Result.{err_from_is_err_and}
use Rattle.run_values.specs.View.{value_tree}
use Rattle.page_walk.proofs.Whole.{one_pending, all_pending, all_stopped}
use Rattle.page_walk.proofs.links.write_values.Goals as goal

pub loop-i-preserved : goal.loop-i-preserved
loop-i-preserved c =
    one_pending c.args.values.now c.loop-i.todo.items c.push.new.self.items c.index-values-count.result []
    (length c.args.values.now - (c.loop-i.i + 1)) (length c.args.values.now - c.loop-i.i)
    (search rules) (search rules) (search rules) c.loop-i.invariant (search rules)

pub returns-in_err-write_value-in-Some-clause-stops : goal.returns-in_err-write_value-in-Some-clause-stops
returns-in_err-write_value-in-Some-clause-stops c =
    let p = err_from_is_err_and c.from_residual-in_err-write_value-in-Some.result c.from_residual-in_err-write_value-in-Some.ensures.1 in
    rw (p.1, p.2) (all_stopped c.args.program.now c.args.link.now c.loop.link _ (map value_tree c.args.values.now) c.in-Some.value c.loop.todo.items c.pop.new.self.items
    c.in_err-write_value-in-Some.field-0.0
    (all_pending c.args.values.now c.loop-i.todo.items (length c.args.values.now - c.loop-i.i) (search (arith, c.loop-i-test.false)) c.loop-i.invariant) c.loop.invariant (search rules) c.in_err-write_value-in-Some.ensures.stops)
