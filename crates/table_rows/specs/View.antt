-- The trees that values of the program are.
use Rattle.std.specs.Prelude.{ℕ, List, [], ◌∷◌, Option, Some, None, map}
use Rattle.table_rows.specs.Wires.{Wr, int, words, unit, rec_of, bare, tagged, Wrs, no_wires, wire}
use Rattle.table_rows.specs.Shapes.{Sh, an_int, a_text, a_unit, a_truth, a_record, a_data, parameter, Shs, no_shapes, shape, Pts, no_parts, part, Cases}
use Rattle.table_rows.specs.declared.wire.Wire.{Wire}
use Rattle.table_rows.specs.declared.wire.Wires.{Wires}
use Rattle.table_rows.specs.declared.wire.Wire.TheOpen.{Wire-F, Wires-F}
use Rattle.table_rows.specs.declared.wire.Wire.TheFolds.{fold-Wire, fold-Wires}
use Rattle.table_rows.specs.declared.shape.Shape.{Shape}
use Rattle.table_rows.specs.declared.shape.Arguments.{Arguments}
use Rattle.table_rows.specs.declared.shape.Part.{Part}
use Rattle.table_rows.specs.declared.shape.Parts.{Parts}
use Rattle.table_rows.specs.declared.shape.Case.{Case}
use Rattle.table_rows.specs.declared.shape.Datatype.{Datatype}
use Rattle.table_rows.specs.declared.shape.Datatypes.{Datatypes}
use Rattle.table_rows.specs.declared.shape.Shape.TheOpen.{Shape-F, Arguments-F, Part-F, Parts-F}
use Rattle.table_rows.specs.declared.shape.Shape.TheFolds.{fold-Shape, fold-Arguments, fold-Part, fold-Parts}

abbrev pub wires_from : List Wr → Wrs
wires_from [] = no_wires
wires_from (w ∷ ws) = wire w (wires_from ws)

abbrev pub wire_step : Wire-F Wr Wrs → Wr
wire_step (Wire-F.Int z) = int z
wire_step (Wire-F.Words t) = words t
wire_step Wire-F.Unit = unit
wire_step (Wire-F.Rec ws) = rec_of ws
wire_step (Wire-F.Tagged n None) = bare n
wire_step (Wire-F.Tagged n (Some w)) = tagged n w.value

abbrev pub wires_step : Wires-F Wr Wrs → Wrs
wires_step ws = wires_from ws.items.items

abbrev pub wire_tree : Wire → Wr
wire_tree = fold-Wire Wr Wrs wire_step wires_step

abbrev pub wires_tree : Wires → Wrs
wires_tree = fold-Wires Wr Wrs wire_step wires_step

abbrev pub shapes_from : List Sh → Shs
shapes_from [] = no_shapes
shapes_from (s ∷ ss) = shape s (shapes_from ss)

abbrev pub parts_from : List (List ℕ × Sh) → Pts
parts_from [] = no_parts
parts_from (p ∷ ps) = part p.0 p.1 (parts_from ps)

abbrev pub shape_step : Shape-F Sh Shs (List ℕ × Sh) Pts → Sh
shape_step Shape-F.Int = an_int
shape_step Shape-F.Words = a_text
shape_step Shape-F.Unit = a_unit
shape_step Shape-F.Truth = a_truth
shape_step (Shape-F.Rec ps) = a_record ps
shape_step (Shape-F.Data d ss) = a_data d ss
shape_step (Shape-F.Parameter i) = parameter i

abbrev pub arguments_step : Arguments-F Sh Shs (List ℕ × Sh) Pts → Shs
arguments_step ss = shapes_from ss.items.items

abbrev pub part_step : Part-F Sh Shs (List ℕ × Sh) Pts → List ℕ × Sh
part_step p = (p.name, p.shape)

abbrev pub parts_step : Parts-F Sh Shs (List ℕ × Sh) Pts → Pts
parts_step ps = parts_from ps.items.items

abbrev pub shape_tree : Shape → Sh
shape_tree = fold-Shape Sh Shs (List ℕ × Sh) Pts shape_step arguments_step part_step parts_step

abbrev pub arguments_tree : Arguments → Shs
arguments_tree = fold-Arguments Sh Shs (List ℕ × Sh) Pts shape_step arguments_step part_step parts_step

abbrev pub parts_tree : Parts → Pts
parts_tree = fold-Parts Sh Shs (List ℕ × Sh) Pts shape_step arguments_step part_step parts_step

abbrev pub maybe_shape : Option Shape → Option Sh
maybe_shape None = None
maybe_shape (Some s) = Some (shape_tree s)

abbrev pub case_view : Case → List ℕ × Option Sh
case_view c = (c.name, maybe_shape c.holds)

abbrev pub datatype_view : Datatype → Cases
datatype_view d = map case_view d.cases.items

abbrev pub datatypes_view : Datatypes → List Cases
datatypes_view ds = map datatype_view ds.items.items
