use Rattle.std.proofs.Common.{◌≡◌, ◌++◌, drop, map}
use Rattle.type_faults.specs.View.{shape_field_tree}
use Rattle.match_cover.specs.Misses.{zipped, behind_fields}
use Rattle.match_cover.specs.View.{part_view, shapes_view}
use Rattle.match_cover.proofs.shapes.gather.Given as goal

abbrev pub invariant-loop-i : goal.invariant-loop-i
invariant-loop-i l =
    (map shape_field_tree l.items.items ++ zipped (map part_view (drop l.i l.fields.items)) (shapes_view l.rest) ≡ zipped (map part_view l.fields.items) (shapes_view l.fn.shapes))
    × (behind_fields (map part_view (drop l.i l.fields.items)) (shapes_view l.rest) ≡ behind_fields (map part_view l.fields.items) (shapes_view l.fn.shapes))
