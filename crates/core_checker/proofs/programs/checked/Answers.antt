use Rattle.std.proofs.Common.{ap, subst}
use Rattle.core_terms.specs.View.{program_view}
use Rattle.type_faults.specs.View.{maybe_fault}
use Rattle.core_checker.specs.Told.{IsTold}
use Rattle.core_checker.proofs.ToldPrograms.{none_is_told}
use Rattle.core_checker.proofs.programs.checked.Goals as goal

pub returns-in-None-clause-clear : goal.returns-in-None-clause-clear
returns-in-None-clause-clear c =
    none_is_told (program_view c.args.p)
    (subst (IsTold (program_view c.args.p)) (ap maybe_fault c.in-None.is) c.in_ok-told.ensures.told)
