use Rattle.core_checker.specs.View.{globals_view}
use Rattle.core_checker.proofs.Tops.{val_after}
use Rattle.core_checker.proofs.declarations.with_decl.Goals as goal

pub returns-in-Val-clause-after : goal.returns-in-Val-clause-after
returns-in-Val-clause-after c =
    val_after c.in-Val.field-0 c.in-Val.n c.args.d.now (globals_view c.args.g.now) (globals_view c.with_value.new.g)
    c.with_value.result c.in-Val.is c.with_value.ensures.after
