use Rattle.std.proofs.Common.{map}
use Rattle.con_terms.specs.View.{con_tree}
use Rattle.core_terms.specs.View.{datatype_view, program_view}
use Rattle.carried_types.specs.View.{carriers_view}
use Rattle.site_routes.specs.View.{step_view}
use Rattle.site_routes.proofs.Taken.{step_else}
use Rattle.site_routes.proofs.site.arrow_step.Goals as goal

pub returns-else-with_form : goal.returns-else-with_form
returns-else-with_form c =
    step_else step_view c.argument_step-else-with_form.result c.args.names.now (map datatype_view c.args.known.now.datatypes.items) (carriers_view c.args.known.now.carriers) (con_tree c.args.a.now) (con_tree c.args.b)
    c.args.with_form c.if-with_form.false c.argument_step-else-with_form.ensures
