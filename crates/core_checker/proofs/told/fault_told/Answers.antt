use Rattle.core_terms.specs.View.{program_view}
use Rattle.node_rules.specs.View.{found_tree}
use Rattle.type_faults.specs.View.{maybe_fault}
use Rattle.core_checker.proofs.NoneTold.{declared, differ_where_none, is_told, where_none}
use Rattle.core_checker.proofs.told.fault_told.Goals as goal

pub returns-clause-declarations : goal.returns-clause-declarations
returns-clause-declarations c =
    declared (program_view c.args.p.now) (found_tree c.in_ok-found.found) c.told_of.result
    c.declared_are_found.ensures.one c.declared_are_found.ensures.together c.in_ok-found.ensures c.told_of.ensures.clean

pub returns-clause-entries : goal.returns-clause-entries
returns-clause-entries c =
    where_none c.told_of.result (differ_where_none (program_view c.args.p.now) c.in_ok-entries.entries c.in_ok-entries.ensures)
    c.told_of.ensures.entries

pub returns-clause-told : goal.returns-clause-told
returns-clause-told c =
    is_told (program_view c.args.p.now) (found_tree c.in_ok-found.found) (maybe_fault c.in_ok-entries.entries) c.told_of.result
    c.judged_is_told.ensures.told c.in_ok-found.ensures c.in_ok-entries.ensures c.told_of.ensures.earliest
