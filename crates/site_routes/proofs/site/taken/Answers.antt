use Rattle.std.proofs.Common.{map, subst, sym, Option, None, Some}
use Rattle.con_terms.specs.View.{con_tree}
use Rattle.core_terms.specs.View.{datatype_view, program_view}
use Rattle.carried_types.specs.View.{carriers_view}
use Rattle.table_rows.specs.Shapes.{Sh, Shs}
use Rattle.table_rows.specs.View.{shape_tree}
use Rattle.site_routes.specs.Taking.{StepIs, TakenIs}
use Rattle.site_routes.specs.View.{step_view}
use Rattle.site_routes.specs.declared.site.Step.{Step}
use Rattle.site_routes.proofs.Taken.{behind_all, behind_more}
use Rattle.site_routes.proofs.site.taken.Goals as goal

pub returns-in-Page : goal.returns-in-Page
returns-in-Page c = λ p k.
    subst (λ (o : Option (Shs × Option Sh)). TakenIs p c.args.with_form (con_tree c.args.t.now) o) (sym c.all_taken-all.ensures)
    (behind_all p c.args.with_form (con_tree c.args.t.now) (map shape_tree c.loop-i.items.items) (con_tree c.loop-i.now) None (c.loop-i.invariant p k)
    (subst (λ (z : Step). StepIs p c.args.with_form (con_tree c.loop-i.now) (step_view z)) c.in-Page.is (c.in_ok-step_of.ensures p k)))

pub returns-in-Form : goal.returns-in-Form
returns-in-Form c = λ p k.
    subst (λ (o : Option (Shs × Option Sh)). TakenIs p c.args.with_form (con_tree c.args.t.now) o) (sym c.all_taken-whole.ensures)
    (behind_all p c.args.with_form (con_tree c.args.t.now) (map shape_tree c.loop-i.items.items) (con_tree c.loop-i.now) (Some (shape_tree c.in-Form.form)) (c.loop-i.invariant p k)
    (subst (λ (z : Step). StepIs p c.args.with_form (con_tree c.loop-i.now) (step_view z)) c.in-Form.is (c.in_ok-step_of.ensures p k)))

pub loop-i-preserved : goal.loop-i-preserved
loop-i-preserved c = λ p k.
    behind_more p c.args.with_form (con_tree c.args.t.now) (map shape_tree c.loop-i.items.items) (map shape_tree c.in_ok-items-in-Argument.items.items) (con_tree c.loop-i.now)
    (con_tree c.in-Argument.rest) (shape_tree c.in-Argument.shape) (c.loop-i.invariant p k)
    (subst (λ (z : Step). StepIs p c.args.with_form (con_tree c.loop-i.now) (step_view z)) c.in-Argument.is (c.in_ok-step_of.ensures p k))
    c.in_ok-items-in-Argument.ensures
