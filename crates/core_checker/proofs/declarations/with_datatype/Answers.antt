use Rattle.core_checker.specs.View.{globals_view}
use Rattle.core_checker.proofs.Tops.{data_after}
use Rattle.core_checker.proofs.declarations.with_datatype.Goals as goal

pub returns-clause-after : goal.returns-clause-after
returns-clause-after c =
    data_after c.args.d.now (globals_view c.args.g.now) (globals_view c.add_data.new.g) c.data_found.result
    c.in_ok-add_data.ensures c.data_found.ensures
