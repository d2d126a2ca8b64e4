use Rattle.std.proofs.Common.{◌≡◌, ◌-◌, drop, map, ◌+◌, ◌*◌}
use Rattle.con_terms.specs.Trees.{con_list}
use Rattle.con_terms.specs.View.{cons_tree}
use Rattle.core_terms.specs.View.{constructor_view, datatype_view}
use Rattle.match_cover.specs.Misses.{built_cases, literals, literal_count, misses}
use Rattle.match_cover.specs.View.{columns_view, rows_view}
use Rattle.match_cover.proofs.miss.+misses.Given as goal

abbrev pub invariant-by_literals-loop-z : goal.invariant-by_literals-loop-z
invariant-by_literals-loop-z l =
    literals (misses (map datatype_view l.datatypes.items) l.room (columns_view l.rest.value)) l.words (rows_view l.rows) (literal_count - l.z) l.z
    ≡ literals (misses (map datatype_view l.datatypes.items) l.room (columns_view l.rest.value)) l.words (rows_view l.rows) literal_count 0

abbrev pub invariant-by_constructors-loop-j : goal.invariant-by_constructors-loop-j
invariant-by_constructors-loop-j l =
    built_cases (map datatype_view l.datatypes.items) (misses (map datatype_view l.datatypes.items) l.room) l.depth l.d.symbol.number (con_list (cons_tree l.args)) (columns_view l.rest.value) (rows_view l.rows) (map constructor_view (drop l.j l.d.constructors.items.items)) l.j
    ≡ built_cases (map datatype_view l.datatypes.items) (misses (map datatype_view l.datatypes.items) l.room) l.depth l.d.symbol.number (con_list (cons_tree l.args)) (columns_view l.rest.value) (rows_view l.rows) (map constructor_view l.d.constructors.items.items) 0

abbrev pub decreases-misses : goal.decreases-misses
decreases-misses l = 16 * l.room

abbrev pub decreases-behind : goal.decreases-behind
decreases-behind l = 16 * l.room + 1

abbrev pub decreases-try_shape : goal.decreases-try_shape
decreases-try_shape l = 16 * l.room + 2

abbrev pub decreases-at_inside : goal.decreases-at_inside
decreases-at_inside l = 16 * l.room + 1

abbrev pub decreases-at_holding : goal.decreases-at_holding
decreases-at_holding l = 16 * l.room + 3

abbrev pub decreases-at_constructor : goal.decreases-at_constructor
decreases-at_constructor l = 16 * l.room + 4

abbrev pub decreases-by_constructors : goal.decreases-by_constructors
decreases-by_constructors l = 16 * l.room + 5

abbrev pub decreases-by_literals : goal.decreases-by_literals
decreases-by_literals l = 16 * l.room + 5

abbrev pub decreases-by_seen : goal.decreases-by_seen
decreases-by_seen l = 16 * l.room + 6

abbrev pub decreases-split : goal.decreases-split
decreases-split l = 16 * l.room + 7
