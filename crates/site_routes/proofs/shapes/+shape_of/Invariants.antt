use Rattle.std.proofs.Common.{◌≡◌, ◌+◌, ◌*◌, ◌-◌, length, map, drop, Some}
use Rattle.con_terms.specs.Trees.{con_list}
use Rattle.con_terms.specs.View.{con_tree, cons_from}
use Rattle.con_terms.specs.declared.con.Con.TheViews.{out-Cons}
use Rattle.core_terms.specs.View.{datatype_view}
use Rattle.table_rows.specs.View.{shape_tree}
use Rattle.site_routes.specs.Shaping.{shapes_by, fields_by, shaped}
use Rattle.site_routes.specs.View.{field_view, part_view}
use Rattle.site_routes.proofs.Steps.{behind}
use Rattle.site_routes.proofs.shapes.+shape_of.Given as goal

abbrev pub decreases-shape_of : goal.decreases-shape_of
decreases-shape_of l = 9 * l.room

abbrev pub decreases-shape_of_normal : goal.decreases-shape_of_normal
decreases-shape_of_normal l = 9 * l.room + 8

abbrev pub decreases-shape_of_seen : goal.decreases-shape_of_seen
decreases-shape_of_seen l = 9 * l.room + 7

abbrev pub decreases-shape_of_data : goal.decreases-shape_of_data
decreases-shape_of_data l = 9 * l.room + 6

abbrev pub decreases-shape_at : goal.decreases-shape_at
decreases-shape_at l = 9 * l.room + 5

abbrev pub decreases-shapes_of : goal.decreases-shapes_of
decreases-shapes_of l = 9 * l.room + 4

abbrev pub decreases-shape_of_row : goal.decreases-shape_of_row
decreases-shape_of_row l = 9 * l.room + 7

abbrev pub decreases-parts_of : goal.decreases-parts_of
decreases-parts_of l = 9 * l.room + 6

abbrev pub decreases-with_field : goal.decreases-with_field
decreases-with_field l = 9 * l.room + 5

abbrev pub decreases-part_of : goal.decreases-part_of
decreases-part_of l = 9 * l.room + 4

abbrev pub invariant-shapes_of-loop-i : goal.invariant-shapes_of-loop-i
invariant-shapes_of-loop-i l =
    behind (map shape_tree l.items.items) (shapes_by (shaped l.room l.names (map datatype_view l.datatypes.items) l.parameters) (con_list (cons_from (map con_tree (drop l.i (out-Cons l.ts).items.items)))))
    ≡ shapes_by (shaped l.room l.names (map datatype_view l.datatypes.items) l.parameters) (con_list (cons_from (map con_tree (out-Cons l.ts).items.items)))

abbrev pub invariant-parts_of-loop-done : goal.invariant-parts_of-loop-done
invariant-parts_of-loop-done l =
    fields_by (shaped l.room l.names (map datatype_view l.datatypes.items) l.parameters) l.names (map field_view (drop (length l.fields.items - l.done) l.fields.items))
    ≡ Some (Some (map part_view l.parts.items))
