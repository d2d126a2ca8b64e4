use Rattle.std.proofs.Common.{◌∙◌, ap}
use Rattle.table_rows.specs.View.{shape_tree}
use Rattle.link_router.proofs.Closing.{at_nothing}
use Rattle.wire_values.specs.Scoped.{shape_in}
use Rattle.wire_values.proofs.Closing.{closed_made}
use Rattle.wire_values.proofs.Moves.{onward, begins_at, whole_value}
use Rattle.wire_values.proofs.Turns.{moved_on, moved_whole}
use Rattle.wire_values.proofs.wires.value_of.Goals as goal

pub loop-init : goal.loop-init
loop-init c = begins_at c.new-stack.ensures (closed_made _ ∙ ap (λ cs. shape_in c.args.shape.now cs) c.in_ok-scope.ensures ∙ at_nothing (shape_tree c.args.shape.now))

pub loop-preserved : goal.loop-preserved
loop-preserved c = onward c.loop.invariant (moved_on _ _ _ c.in-On.is c.in_ok-next.ensures)

pub returns-in-Whole : goal.returns-in-Whole
returns-in-Whole c = whole_value (onward c.loop.invariant (moved_whole _ _ _ c.in-Whole.is c.in_ok-next.ensures))
