-- The plain data that the values of this crate are.
use Rattle.std.specs.Prelude.{ℕ, List, [], ◌∷◌, Option, Some, None, map}
use Rattle.con_terms.specs.Trees.{Cn}
use Rattle.con_terms.specs.View.{con_tree, cons_tree}
use Rattle.con_terms.specs.Trees.{con_list}
use Rattle.con_terms.specs.declared.con.Con.{Con}
use Rattle.std.specs.Global.{Vec, Global}
use Rattle.core_terms.specs.View.{maybe_con, datatype_view}
use Rattle.core_typing.specs.Cover.{Shp}
use Rattle.core_typing.specs.Seen as types
use Rattle.type_faults.specs.View.{shape_tree}
use Rattle.type_faults.specs.declared.fault.Shape.{Shape}
use Rattle.std.specs.declared.rc.Rc.{Rc}
use Rattle.core_terms.specs.Trees.{Dt}
use Rattle.match_cover.specs.declared.free.Next.{Next}
use Rattle.match_cover.specs.declared.free.Next.TheVariants as next
use Rattle.match_cover.specs.declared.free.Turn.{Turn}
use Rattle.match_cover.specs.declared.free.Turn.TheVariants as turn
use Rattle.match_cover.specs.declared.miss.Tried.{Tried}
use Rattle.match_cover.specs.declared.miss.Tried.TheVariants as tried
use Rattle.match_cover.specs.Tests.{Ts, anything, a_number, a_text, a_bare, a_holding, some_fields, Tfs, no_tests, test_at}
use Rattle.match_cover.specs.Rows as rows
use Rattle.match_cover.specs.Misses as misses
use Rattle.match_cover.specs.declared.test.Test.{Test}
use Rattle.match_cover.specs.declared.test.Tests.{Tests}
use Rattle.match_cover.specs.declared.test.Test.TheOpen.{Test-F, Tests-F}
use Rattle.match_cover.specs.declared.test.Test.TheFolds.{fold-Test, fold-Tests}
use Rattle.match_cover.specs.declared.rows.Cell.{Cell}
use Rattle.match_cover.specs.declared.rows.Cell.TheOpen.{Cell-F}
use Rattle.match_cover.specs.declared.rows.Cell.TheFolds.{fold-Cell}
use Rattle.match_cover.specs.declared.rows.Row.{Row}
use Rattle.match_cover.specs.declared.rows.Row.TheOpen.{Row-F}
use Rattle.match_cover.specs.declared.rows.Row.TheFolds.{fold-Row}
use Rattle.match_cover.specs.declared.rows.Rows.{Rows}
use Rattle.match_cover.specs.declared.seen.Seen.{Seen}
use Rattle.match_cover.specs.declared.seen.Seen.TheVariants as seen
use Rattle.match_cover.specs.declared.seen.Part.{Part}
use Rattle.match_cover.specs.declared.shapes.Shapes.{Shapes}
use Rattle.match_cover.specs.declared.shapes.Shapes.TheOpen.{Shapes-F}
use Rattle.match_cover.specs.declared.shapes.Shapes.TheFolds.{fold-Shapes}
use Rattle.match_cover.specs.declared.columns.Columns.{Columns}
use Rattle.match_cover.specs.declared.columns.Columns.TheOpen.{Columns-F}
use Rattle.match_cover.specs.declared.columns.Columns.TheFolds.{fold-Columns}

abbrev pub test_step : Test-F Ts Tfs → Ts
test_step Test-F.Anything = anything
test_step (Test-F.Number z) = a_number z
test_step (Test-F.Words t) = a_text t
test_step (Test-F.Bare s j) = a_bare s.number j
test_step (Test-F.Holding s j t) = a_holding s.number j t.value
test_step (Test-F.Fields fs) = some_fields fs.value

abbrev pub tests_step : Tests-F Ts Tfs → Tfs
tests_step Tests-F.End = no_tests
tests_step (Tests-F.More n t fs) = test_at (maybe_con n) t.value fs.value

abbrev pub test_tree : Test → Ts
test_tree = fold-Test Ts Tfs test_step tests_step

abbrev pub tests_tree : Tests → Tfs
tests_tree = fold-Tests Ts Tfs test_step tests_step

abbrev pub cell_step : Cell-F rows.Cell → rows.Cell
cell_step Cell-F.End = []
cell_step (Cell-F.More t ts) = test_tree t.value ∷ ts.value

abbrev pub cell_view : Cell → rows.Cell
cell_view = fold-Cell rows.Cell cell_step

abbrev pub cell_at : Rc Cell Global → rows.Cell
cell_at c = cell_view c.value

abbrev pub row_step : Row-F rows.Row → rows.Row
row_step Row-F.End = []
row_step (Row-F.More c cs) = cell_view c.value ∷ cs.value

abbrev pub row_view : Row → rows.Row
row_view = fold-Row rows.Row row_step

abbrev pub row_list : List (Rc Row Global) → List rows.Row
row_list rs = map (λ r. row_view r.value) rs

abbrev pub rows_view : Rows → List rows.Row
rows_view rs = row_list rs.items.items

abbrev pub maybe_cell : Option Cell → Option rows.Cell
maybe_cell None = None
maybe_cell (Some c) = Some (cell_view c)

abbrev pub maybe_row : Option Row → Option rows.Row
maybe_row None = None
maybe_row (Some r) = Some (row_view r)

abbrev pub part_view : Part → Cn × Cn
part_view p = (con_tree p.name, con_tree p.con)

abbrev pub shapes_step : Shapes-F (List Shp) → List Shp
shapes_step Shapes-F.End = []
shapes_step (Shapes-F.More s ss) = shape_tree s.value ∷ ss.value

abbrev pub shapes_view : Shapes → List Shp
shapes_view = fold-Shapes (List Shp) shapes_step

abbrev pub columns_step : Columns-F (List misses.Column) → List misses.Column
columns_step Columns-F.End = []
columns_step (Columns-F.More d t cs) = (d, con_tree t.value) ∷ cs.value

abbrev pub columns_view : Columns → List misses.Column
columns_view = fold-Columns (List misses.Column) columns_step

abbrev pub maybe_tests : Option Tests → Option Tfs
maybe_tests None = None
maybe_tests (Some ts) = Some (tests_tree ts)

abbrev pub maybe_shared : Option (Rc Row Global) → Option rows.Row
maybe_shared None = None
maybe_shared (Some r) = Some (row_view r.value)

-- what a type tells
abbrev pub seen_view : Seen → types.Seen
seen_view seen.Number = types.a_number
seen_view seen.Words = types.a_text
seen_view (seen.Data d args) = types.a_datatype (datatype_view d.now) (con_list (cons_tree args))
seen_view (seen.Record fs) = types.a_record (map part_view fs.items)
seen_view seen.Nothing = types.nothing_more

-- what looking gives: want of room is an answer of its own
abbrev pub first_view : Option Shape → misses.First
first_view None = misses.no_shape
first_view (Some s) = misses.the_first (shape_tree s)

abbrev pub firsts_view : Option Shapes → misses.Firsts
firsts_view None = misses.no_shapes
firsts_view (Some ss) = misses.the_firsts (shapes_view ss)

abbrev pub out_view : Option Shapes → misses.Out
out_view None = misses.covered
out_view (Some ss) = misses.missed (shapes_view ss)

-- what a try tells, where more is looked at
abbrev pub tried_view : Tried → misses.Out → misses.Out
tried_view tried.All more = misses.covered
tried_view (tried.Missed ss) more = misses.missed (shapes_view ss)
tried_view tried.More more = more

abbrev pub maybe_shape : Option Shape → Option Shp
maybe_shape None = None
maybe_shape (Some s) = Some (shape_tree s)

abbrev pub maybe_cons : Option (Vec Con) → Option (List Cn)
maybe_cons None = None
maybe_cons (Some cs) = Some (map con_tree cs.items)

-- the columns behind those that ask nothing
abbrev pub next_view : List Dt → Next → misses.Out
next_view ds next.Covered = misses.covered
next_view ds next.Over = misses.missed []
next_view ds (next.Split d t rest rows room) =
    misses.split ds (misses.misses ds room) (d, con_tree t.value) (columns_view rest.value) (rows_view rows)

-- one turn: where it goes on, the shape stands before what is missed behind it
abbrev pub turn_view : List Dt → ℕ → Turn → misses.Out
turn_view ds room (turn.Ends next) = next_view ds next
turn_view ds room (turn.Goes s rest rows) =
    misses.then_shape (shape_tree s) (misses.misses ds room (columns_view rest.value) (rows_view rows))
