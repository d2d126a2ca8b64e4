-- Shapes with the arguments of the datatype that they stand in, and what the parts of a making stand for.
use Rattle.std.specs.Prelude.{List, [], map, reverse}
use Rattle.table_rows.specs.Shapes.{Sh, Shs, Pts, at_arguments, parts_at_arguments}
use Rattle.table_rows.specs.View.{wire_tree, wires_from, shapes_from, parts_from, shape_tree}
use Rattle.table_rows.specs.declared.shape.Shape.{Shape}
use Rattle.table_rows.specs.declared.shape.Part.{Part}
use Rattle.link_router.specs.Scoped.{part_tree}
use Rattle.run_values.specs.View.{value_tree, slots_tree}
use Rattle.wire_values.specs.Amid.{Waiting, fields, holds, Amid, wants, fills, has}
use Rattle.wire_values.specs.declared.scoped.Closed.{Closed}
use Rattle.wire_values.specs.declared.scoped.Closed.TheOpen.{Closed-F}
use Rattle.wire_values.specs.declared.scoped.Closed.TheFolds.{fold-Closed}
use Rattle.wire_values.specs.declared.frames.Filling.{Filling}
use Rattle.wire_values.specs.declared.frames.Frame.{Frame}
use Rattle.wire_values.specs.declared.frames.Frame.TheVariants.{Field, Held}
use Rattle.wire_values.specs.declared.frames.Stack.{Stack}
use Rattle.wire_values.specs.declared.frames.Step.{Step}
use Rattle.wire_values.specs.declared.frames.Step.TheVariants.{Wants, Has}
use Rattle.wire_values.specs.declared.frames.Moved.{Moved}
use Rattle.wire_values.specs.declared.frames.Moved.TheVariants.{On, Whole}

abbrev pub closed_step : Closed-F Sh → Sh
closed_step c = at_arguments (shapes_from c.scope.now) (shape_tree c.shape.now)

-- a shape with its arguments put for its parameters
abbrev pub closed_tree : Closed → Sh
closed_tree = fold-Closed Sh closed_step

abbrev pub scope_shapes : List Closed → Shs
scope_shapes cs = shapes_from (map closed_tree cs)

abbrev pub shape_in : Shape → List Closed → Sh
shape_in s cs = at_arguments (scope_shapes cs) (shape_tree s)

abbrev pub parts_in : List Part → List Closed → Pts
parts_in ps cs = parts_at_arguments (scope_shapes cs) (parts_from (map part_tree ps))

abbrev pub frame_view : Frame → Waiting
frame_view (Field f x) = fields (slots_tree f.made.items) x.number (parts_in f.parts.now f.scope.now)
    (wires_from (map wire_tree f.wires.now))
frame_view (Held s j) = holds s.number j

-- what waits, the innermost first
abbrev pub stack_view : Stack → List Waiting
stack_view s = reverse (map frame_view s.frames.items)

-- how far a making came
abbrev pub amid : Step → List Waiting → Amid
amid (Wants c w) ls = wants ls (closed_tree c) (wire_tree w.now)
amid (Has v) ls = has ls (value_tree v)

abbrev pub filling : Filling → List Waiting → Amid
filling f ls = fills ls (slots_tree f.made.items) (parts_in f.parts.now f.scope.now)
    (wires_from (map wire_tree f.wires.now))

abbrev pub moved_to : Moved → List Waiting → Amid
moved_to (On s) ls = amid s ls
moved_to (Whole v) ls = has [] (value_tree v)
