use Rattle.std.proofs.Common.{map, subst, Option}
use Rattle.con_terms.specs.View.{con_tree}
use Rattle.core_terms.specs.View.{datatype_view, program_view}
use Rattle.carried_types.specs.View.{carriers_view}
use Rattle.table_rows.specs.View.{maybe_shape, shape_tree}
use Rattle.table_rows.specs.declared.shape.Shape.{Shape}
use Rattle.site_routes.specs.Taking.{ArgumentIs}
use Rattle.site_routes.proofs.Taken.{argument_no, argument_yes}
use Rattle.site_routes.proofs.site.argument_step.Goals as goal

pub returns-in-None : goal.returns-in-None
returns-in-None c = λ p w t k e n.
    argument_no p w t (con_tree c.args.a.now) (con_tree c.args.rest) e n
    (subst (λ (o : Option Shape). ArgumentIs p (con_tree c.args.a.now) (maybe_shape o)) c.in-None.is (c.in_ok-argument.ensures p k))

pub returns-in-Some : goal.returns-in-Some
returns-in-Some c = λ p w t k e n.
    argument_yes p w t (con_tree c.args.a.now) (con_tree c.args.rest) (shape_tree c.in-Some.shape) e n
    (subst (λ (o : Option Shape). ArgumentIs p (con_tree c.args.a.now) (maybe_shape o)) c.in-Some.is (c.in_ok-argument.ensures p k))
