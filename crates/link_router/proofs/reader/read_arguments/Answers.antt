use Rattle.link_router.proofs.Arguments.{args_further, args_stop, args_done}
use Rattle.link_router.proofs.reader.read_arguments.Goals as goal

pub returns-in-Err-clause-err : goal.returns-in-Err-clause-err
returns-in-Err-clause-err c = args_stop c.loop-first.rest.now c.in-Some.others.now c.in-Some.first.now _ c.in-Err.stopped c.in-Some.ensures.cases.0 c.loop-first.invariant c.in-Err.ensures.err

pub loop-first-preserved : goal.loop-first-preserved
loop-first-preserved c = args_further c.loop-first.rest.now c.in-Some.others.now c.in-Some.first.now c.in-Some.ensures.cases.0 c.loop-first.invariant c.in-Ok.ensures.ok c.in_ok-push-in-Ok.ensures.grown

pub returns-clause-ok : goal.returns-clause-ok
returns-clause-ok c = args_done c.loop-first.rest.now c.in_default.ensures.cases c.loop-first.invariant
