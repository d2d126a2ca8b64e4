use Rattle.std.proofs.Common.{◌≡◌, ◌≤◌, drop, map, vec_len, ◌+◌, ◌*◌}
use Rattle.con_terms.specs.Trees.{con_list}
use Rattle.con_terms.specs.View.{cons_tree}
use Rattle.core_terms.specs.View.{constructor_view, datatype_view}
use Rattle.match_cover.specs.Misses.{first_built, first_fields, first_shape, the_firsts}
use Rattle.match_cover.specs.View.{part_view, shapes_view}
use Rattle.match_cover.proofs.first.+first_shape.Given as goal

abbrev pub invariant-first_built-loop-j : goal.invariant-first_built-loop-j
invariant-first_built-loop-j l =
    first_built (first_shape (map datatype_view l.datatypes.items) l.depth) l.d.symbol.number (con_list (cons_tree l.args)) (map constructor_view l.d.constructors.items.items) 0
    ≡ first_built (first_shape (map datatype_view l.datatypes.items) l.depth) l.d.symbol.number (con_list (cons_tree l.args)) (map constructor_view (drop l.j l.d.constructors.items.items)) l.j

abbrev pub invariant-first_fields-loop-left : goal.invariant-first_fields-loop-left
invariant-first_fields-loop-left l =
    (the_firsts (shapes_view l.shapes) ≡ first_fields (first_shape (map datatype_view l.datatypes.items) l.depth) (map part_view (drop l.left l.fields.items))) × (l.left ≤ vec_len l.fields)

abbrev pub decreases-first_fields-loop-left : goal.decreases-first_fields-loop-left
decreases-first_fields-loop-left l = l.left

abbrev pub decreases-first_shape : goal.decreases-first_shape
decreases-first_shape l = 4 * l.depth

abbrev pub decreases-first_seen : goal.decreases-first_seen
decreases-first_seen l = 4 * l.depth + 3

abbrev pub decreases-first_built : goal.decreases-first_built
decreases-first_built l = 4 * l.depth + 2

abbrev pub decreases-first_fields : goal.decreases-first_fields
decreases-first_fields l = 4 * l.depth + 2
