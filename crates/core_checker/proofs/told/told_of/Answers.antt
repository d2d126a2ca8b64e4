use Rattle.core_checker.proofs.NoneTold.{all_clean, earliest, no_entry}
use Rattle.core_checker.proofs.told.told_of.Goals as goal

pub returns-clause-clean : goal.returns-clause-clean
returns-clause-clean c =
    all_clean c.args.found c.args.entries c.first-later.result c.first-told.result c.settled.result
    c.first-later.ensures c.first-told.ensures c.settled.ensures.kept c.settled.ensures.found

pub returns-clause-entries : goal.returns-clause-entries
returns-clause-entries c =
    no_entry c.args.found c.args.entries c.first-later.result c.first-told.result c.settled.result
    c.first-later.ensures c.first-told.ensures c.settled.ensures.kept

pub returns-clause-earliest : goal.returns-clause-earliest
returns-clause-earliest c =
    earliest c.args.found c.args.entries c.first-later.result c.first-told.result c.settled.result
    c.first-later.ensures c.first-told.ensures c.settled.ensures.kept
