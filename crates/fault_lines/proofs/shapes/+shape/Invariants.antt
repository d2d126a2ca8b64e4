use Rattle.std.proofs.Common.{◌≡◌, ◌+◌, ◌*◌, true, map, drop}
use Rattle.fault_lines.specs.Shapes.{put_shape_fields}
use Rattle.shown_types.specs.View.{known_view}
use Rattle.type_faults.specs.View.{shapes_tree, shape_field_tree, shapes_from}
use Rattle.type_faults.specs.declared.fault.ShapeFields.{out-ShapeFields}
use Rattle.fault_lines.proofs.shapes.+shape.Given as goal

abbrev pub decreases-put_shape : goal.decreases-put_shape
decreases-put_shape l = 6 * l.room

abbrev pub decreases-put_holding : goal.decreases-put_holding
decreases-put_holding l = 6 * l.room + 5

abbrev pub decreases-put_record : goal.decreases-put_record
decreases-put_record l = 6 * l.room + 5

abbrev pub decreases-put_fields : goal.decreases-put_fields
decreases-put_fields l = 6 * l.room + 4

abbrev pub decreases-put_field : goal.decreases-put_field
decreases-put_field l = 6 * l.room + 3

abbrev pub invariant-put_fields-loop-i : goal.invariant-put_fields-loop-i
invariant-put_fields-loop-i l =
    put_shape_fields (known_view l.known) l.called true (shapes_tree l.fields) l.initial.line
    ≡ put_shape_fields (known_view l.known) l.called l.first (shapes_from (map shape_field_tree (drop l.i (out-ShapeFields l.fields).items.items))) l.line
