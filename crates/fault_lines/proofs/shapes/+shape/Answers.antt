use Rattle.std.proofs.Common.{rules, true}
use Rattle.fault_lines.specs.Shapes.{put_shape_fields}
use Rattle.shown_types.specs.View.{known_view}
use Rattle.type_faults.specs.View.{shapes_tree}
use Rattle.type_faults.specs.declared.fault.ShapeFields.{out-ShapeFields}
use Rattle.fault_lines.proofs.ShapeFields.{next_field}
use Rattle.fault_lines.proofs.shapes.+shape.Goals as goal

pub put_fields-loop-i-preserved : goal.put_fields-loop-i-preserved
put_fields-loop-i-preserved t c =
    let known = known_view c.args.known.now in
    let called = c.args.called.now in
    next_field known called c.loop-i.first (out-ShapeFields c.args.fields.now).items.items c.loop-i.i c.index.result.now
    (put_shape_fields known called true (shapes_tree c.args.fields.now) c.args.line.now) c.loop-i.line c.put_field.new.line
    c.loop-i.invariant c.index.ensures (search rules) (search rules)
