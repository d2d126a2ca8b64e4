use Rattle.std.proofs.Common.{◌∙◌, ap, sym, length}
use Rattle.table_rows.specs.View.{parts_tree}
use Rattle.link_router.specs.Scoped.{scope_shapes}
use Rattle.link_router.proofs.Closing.{closed_made, parts_first, parts_nothing, empty_record}
use Rattle.link_router.proofs.Moves.{record_nothing, record_first}
use Rattle.link_router.proofs.reader.begin_record.Goals as goal

pub returns-in-None : goal.returns-in-None
returns-in-None c D ps = record_nothing (scope_shapes c.args.scope.now) (parts_tree c.args.parts.now) _ (parts_nothing c.args.parts.now (ap length (sym c.as_slice.ensures.value) ∙ c.in-None.ensures.cases)) (empty_record _ c.new.ensures)

pub returns-in_ok-push-in-Some : goal.returns-in_ok-push-in-Some
returns-in_ok-push-in-Some c D ps = record_first (scope_shapes c.args.scope.now) (parts_tree c.args.parts.now) _ _ _ _ _ (parts_first c.args.parts.now c.in-Some.first.now c.in-Some.others.now (sym c.as_slice.ensures.value ∙ c.in-Some.ensures.cases.0)) c.new-in-Some.ensures (closed_made _) c.in_ok-push-in-Some.ensures
