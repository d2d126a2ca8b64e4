use Rattle.wire_values.proofs.Turns.{wants_is, popped_whole, popped}
use Rattle.wire_values.proofs.fitting.moved.Goals as goal

pub returns-in_ok-begin-in-Wants : goal.returns-in_ok-begin-in-Wants
returns-in_ok-begin-in-Wants c = wants_is c.args.step c.in-Wants.closed c.in-Wants.wire c.in-Wants.is c.in_ok-begin-in-Wants.ensures

pub returns-in-None : goal.returns-in-None
returns-in-None c = popped_whole c.args.step c.in-Has.value c.in-Has.is c.in-None.ensures.none

pub returns-in_ok-handed_up-in-Some : goal.returns-in_ok-handed_up-in-Some
returns-in_ok-handed_up-in-Some c = popped c.args.step c.in-Has.value c.in-Has.is c.in-Some.ensures.some c.in_ok-handed_up-in-Some.ensures
