use Rattle.std.proofs.Common.{◌∙◌, ap}
use Rattle.table_rows.specs.View.{shape_tree, datatypes_view}
use Rattle.link_router.specs.Scoped.{amid, shape_in, stack_view}
use Rattle.link_router.proofs.Closing.{closed_made, at_nothing}
use Rattle.link_router.proofs.Onward.{onward, whole_read, whole_ends, moved_on, moved_whole, begins_at}
use Rattle.link_router.proofs.reader.read_value.Goals as goal

pub loop-init : goal.loop-init
loop-init c = begins_at c.new-stack.ensures (closed_made _ ∙ ap (λ cs. shape_in c.args.shape.now cs) c.in_ok-scope.ensures ∙ at_nothing (shape_tree c.args.shape.now))

pub loop-preserved : goal.loop-preserved
loop-preserved c = onward c.loop.invariant (moved_on _ _ _ _ _ _ c.in-Ok-On.field-0-is c.in-Ok-On.ensures.ok)

pub returns-in-Ok-Whole-clause-ok : goal.returns-in-Ok-Whole-clause-ok
returns-in-Ok-Whole-clause-ok c = whole_read (onward c.loop.invariant (moved_whole _ _ _ _ _ _ c.in-Ok-Whole.field-0-is c.in-Ok-Whole.ensures.ok))

pub returns-in-Err-clause-err : goal.returns-in-Err-clause-err
returns-in-Err-clause-err c = whole_ends _ c.in-Err.stopped c.loop.invariant c.in-Err.ensures.err
