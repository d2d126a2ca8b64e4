use Rattle.std.proofs.Common.{subst}
use Rattle.hole_reader.specs.Refuses.{StopsAt}
use Rattle.hole_reader.proofs.Steps.{refuses, steps_same}
use Rattle.hole_reader.proofs.reader.Reader.step.Goals as goal

pub returns-in-Ok-clause-steps : goal.returns-in-Ok-clause-steps
returns-in-Ok-clause-steps c handed h =
    let items = c.args.tokens.now.items in
    steps_same items handed c.resume.new.self c.args.self.now c.go_on.new.self c.in-Ok.step c.resume.ensures.whole (c.in-Ok.ensures.steps handed (c.in_ok-resume.ensures.comes items handed h c.requires.closed))

pub returns-in-Err-clause-refused : goal.returns-in-Err-clause-refused
returns-in-Err-clause-refused c handed h =
    let items = c.args.tokens.now.items in
    refuses c.args.tokens.now c.args.self.now.whole handed c.in-Err.stop c.fault_of.result
    (subst (λ w. StopsAt items w handed c.in-Err.stop) c.resume.ensures.whole (c.in-Err.ensures.stops handed (c.in_ok-resume.ensures.comes items handed h c.requires.closed))) c.fault_of.ensures
