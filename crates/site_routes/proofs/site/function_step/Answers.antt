use Rattle.std.proofs.Common.{◌≡◌, map, Option, Some, ap, sym, ◌∙◌}
use Rattle.con_terms.specs.View.{con_tree}
use Rattle.core_terms.specs.View.{datatype_view, program_view}
use Rattle.carried_types.specs.View.{carriers_view}
use Rattle.carried_types.specs.Pages.{arrow_parts}
use Rattle.core_typing.specs.Scopes.{normal_of}
use Rattle.site_routes.specs.View.{step_view, maybe_function}
use Rattle.site_routes.proofs.Taken.{no_function, step_arrow}
use Rattle.site_routes.proofs.site.function_step.Goals as goal

pub returns-in-None : goal.returns-in-None
returns-in-None c = λ p k n.
    no_function p c.args.with_form (con_tree c.args.t.now) (ap maybe_function (sym c.in-None.is) ∙ c.in_ok-function_of.ensures) n

pub returns-in-Some : goal.returns-in-Some
returns-in-Some c =
    step_arrow step_view c.arrow_step.result c.args.names.now (map datatype_view c.args.known.now.datatypes.items) (carriers_view c.args.known.now.carriers) (con_tree c.in-Some.f.from) (con_tree c.in-Some.f.to) (con_tree c.args.t.now)
    c.args.with_form (ap maybe_function (sym c.in-Some.is) ∙ c.in_ok-function_of.ensures) c.arrow_step.ensures
