use Rattle.core_terms.specs.View.{program_view}
use Rattle.core_checker.proofs.NoneTold.{accepted}
use Rattle.core_checker.proofs.programs.told.Goals as goal

pub returns-clause-accepted : goal.returns-clause-accepted
returns-clause-accepted c =
    accepted (program_view c.args.p.now) c.fault_told.result c.what_is_found_is_accepted.ensures.accepted
    c.fault_told.ensures.declarations c.fault_told.ensures.entries
