use Rattle.std.proofs.Common.{◌≡◌, drop, map}
use Rattle.con_terms.specs.View.{con_tree}
use Rattle.core_typing.specs.Cover.{shape_at}
use Rattle.type_faults.specs.View.{shape_field_tree, shapes_from, shapes_tree}
use Rattle.type_faults.specs.declared.fault.ShapeFields.{out-ShapeFields}
use Rattle.match_cover.proofs.rows.field_at.Given as goal

abbrev pub invariant-loop-i : goal.invariant-loop-i
invariant-loop-i l =
    shape_at (shapes_from (map shape_field_tree (drop l.i (out-ShapeFields l.fs).items.items))) (con_tree l.x) ≡ shape_at (shapes_tree l.fs) (con_tree l.x)
