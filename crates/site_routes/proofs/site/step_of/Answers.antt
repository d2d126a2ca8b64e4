use Rattle.std.proofs.Common.{map}
use Rattle.con_terms.specs.View.{con_tree}
use Rattle.core_terms.specs.View.{datatype_view, program_view}
use Rattle.carried_types.specs.View.{carriers_view}
use Rattle.site_routes.specs.View.{step_view}
use Rattle.site_routes.proofs.Taken.{page_step, no_page_step}
use Rattle.site_routes.proofs.site.step_of.Goals as goal

pub returns-then-page : goal.returns-then-page
returns-then-page c = λ p k. page_step p c.args.with_form (con_tree c.args.t.now) c.in_ok-page.page c.if-with_form.false c.in_ok-page.ensures c.if-page.true

pub returns-else-page : goal.returns-else-page
returns-else-page c =
    no_page_step step_view c.function_step-else-page.result c.args.names.now (map datatype_view c.args.known.now.datatypes.items) (carriers_view c.args.known.now.carriers) c.args.with_form (con_tree c.args.t.now)
    c.in_ok-page.page c.in_ok-page.ensures c.if-page.false c.function_step-else-page.ensures
