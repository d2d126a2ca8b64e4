-- Shapes with the arguments of the datatype that they stand in, and what the parts of a reading stand for.
use Rattle.std.specs.Prelude.{ℕ, List, [], map, reverse}
use Rattle.table_rows.specs.Wires.{wire_list}
use Rattle.table_rows.specs.Shapes.{Sh, Shs, Pts, Cases, at_arguments, parts_at_arguments}
use Rattle.table_rows.specs.View.{wire_tree, wires_tree, shapes_from, parts_from, shape_step, arguments_step, part_step, parts_step, shape_tree}
use Rattle.table_rows.specs.declared.shape.Shape.{Shape}
use Rattle.table_rows.specs.declared.shape.Part.{Part}
use Rattle.table_rows.specs.declared.shape.Shape.TheFolds.{fold-Part}
use Rattle.link_router.specs.Reading.{bad, few, Stops, StopsAll}
use Rattle.link_router.specs.Amid.{Waiting, fields, holds, Amid, wants, has, EndsAt}
use Rattle.link_router.specs.declared.scoped.Closed.{Closed}
use Rattle.link_router.specs.declared.scoped.Closed.TheOpen.{Closed-F}
use Rattle.link_router.specs.declared.scoped.Closed.TheFolds.{fold-Closed}
use Rattle.link_router.specs.declared.frames.Frame.{Frame}
use Rattle.link_router.specs.declared.frames.Frame.TheVariants.{Fields, Held}
use Rattle.link_router.specs.declared.frames.Stack.{Stack}
use Rattle.link_router.specs.declared.frames.Step.{Step}
use Rattle.link_router.specs.declared.frames.Step.TheVariants.{Wants, Has}
use Rattle.link_router.specs.declared.frames.Moved.{Moved}
use Rattle.link_router.specs.declared.frames.Moved.TheVariants.{On, Whole}
use Rattle.link_router.specs.declared.frames.Stopped.{Stopped}
use Rattle.link_router.specs.declared.frames.Stopped.TheVariants.{Bad, Few, Memory}

abbrev pub closed_step : Closed-F Sh → Sh
closed_step c = at_arguments (shapes_from c.scope.now) (shape_tree c.shape.now)

-- a shape with its arguments put for its parameters
abbrev pub closed_tree : Closed → Sh
closed_tree = fold-Closed Sh closed_step

abbrev pub scope_shapes : List Closed → Shs
scope_shapes cs = shapes_from (map closed_tree cs)

abbrev pub shape_in : Shape → List Closed → Sh
shape_in s cs = at_arguments (scope_shapes cs) (shape_tree s)

abbrev pub part_tree : Part → List ℕ × Sh
part_tree = fold-Part Sh Shs (List ℕ × Sh) Pts shape_step arguments_step part_step parts_step

abbrev pub parts_in : List Part → List Closed → Pts
parts_in ps cs = parts_at_arguments (scope_shapes cs) (parts_from (map part_tree ps))

abbrev pub frame_view : Frame → Waiting
frame_view (Fields done parts scope) = fields (wire_list (wires_tree done)) (parts_in parts.now scope.now)
frame_view (Held n) = holds n

-- what waits, the innermost first
abbrev pub stack_view : Stack → List Waiting
stack_view s = reverse (map frame_view s.frames.items)

-- how far a reading came
abbrev pub amid : Step → List Waiting → List (List ℕ) → Amid
amid (Wants c) ls ps = wants ls (closed_tree c) ps
amid (Has w) ls ps = has ls (wire_tree w) ps

abbrev pub moved_to : Moved → List Waiting → List (List ℕ) → Amid
moved_to (On s) ls ps = amid s ls ps
moved_to (Whole w) ls ps = has [] (wire_tree w) ps

-- a reading that came so far stops so, with these pieces left
abbrev pub EndsSo : List Cases → Amid → List (List ℕ) → Stopped → Type 0
EndsSo D a qs Bad = EndsAt D a (bad qs)
EndsSo D a qs Few = EndsAt D a few
EndsSo D a qs Memory = Unit {0}

-- a reading of the shape stops so, with these pieces left
abbrev pub StopsSo : List Cases → Sh → List (List ℕ) → List (List ℕ) → Stopped → Type 0
StopsSo D s ps qs Bad = Stops D s ps (bad qs)
StopsSo D s ps qs Few = Stops D s ps few
StopsSo D s ps qs Memory = Unit {0}

-- reading the values of arguments stops so
abbrev pub StopsAllSo : List Cases → Shs → List (List ℕ) → List (List ℕ) → Stopped → Type 0
StopsAllSo D ss ps qs Bad = StopsAll D ss ps (bad qs)
StopsAllSo D ss ps qs Few = StopsAll D ss ps few
StopsAllSo D ss ps qs Memory = Unit {0}
