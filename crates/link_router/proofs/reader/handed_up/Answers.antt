use Rattle.std.proofs.Common.{◌∙◌, map, ap}
use Rattle.table_rows.specs.Wires.{tagged}
use Rattle.table_rows.specs.View.{wire_tree, wires_tree, parts_from}
use Rattle.table_rows.proofs.Lists.{tagged_tree}
use Rattle.link_router.specs.Scoped.{scope_shapes, part_tree}
use Rattle.link_router.proofs.Closing.{closed_made, listed_first, listed_nothing, record_tree}
use Rattle.link_router.proofs.Moves.{field_next, field_last, held_done}
use Rattle.link_router.proofs.Onward.{framed}
use Rattle.link_router.proofs.reader.handed_up.Goals as goal

pub returns-in_ok-held-in-Held : goal.returns-in_ok-held-in-Held
returns-in_ok-held-in-Held c D ps =
    framed c.in-Held.is (held_done c.in-Held.name (wire_tree c.args.wire) _ (tagged_tree c.in-Held.name c.in_ok-held-in-Held.held ∙ ap (λ w. tagged c.in-Held.name (wire_tree w)) c.in_ok-held-in-Held.ensures.ok))

pub returns-in-None : goal.returns-in-None
returns-in-None c D ps =
    framed c.in-Fields.is (field_last (scope_shapes c.in-Fields.scope.now) (parts_from (map part_tree c.in-Fields.parts.now)) _ (wires_tree c.push.new.self) (wire_tree c.args.wire) _ (listed_nothing c.in-Fields.parts.now c.in-None.ensures.cases) c.in_ok-push-in-Fields.ensures.grown (record_tree c.push.new.self))

pub returns-in_ok-push-in-Some : goal.returns-in_ok-push-in-Some
returns-in_ok-push-in-Some c D ps =
    framed c.in-Fields.is (field_next (scope_shapes c.in-Fields.scope.now) (parts_from (map part_tree c.in-Fields.parts.now)) _ _ _ _ _ _ (wire_tree c.args.wire) (listed_first c.in-Fields.parts.now c.in-Some.first.now c.in-Some.others.now c.in-Some.ensures.cases.0) c.in_ok-push-in-Fields.ensures.grown (closed_made _) c.in_ok-push-in-Some.ensures)
