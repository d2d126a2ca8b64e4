use Rattle.std.proofs.Common.{◌≡◌, drop, map, []}
use Rattle.con_terms.specs.View.{con_tree}
use Rattle.core_terms.specs.View.{datatype_view}
use Rattle.match_cover.specs.Levels.{next_level}
use Rattle.match_cover.proofs.levels.next_level.Given as goal

abbrev pub invariant-loop-i : goal.invariant-loop-i
invariant-loop-i l =
    next_level (map datatype_view l.datatypes.items) (map con_tree (drop l.i l.types.items)) (map con_tree l.next.items)
    ≡ next_level (map datatype_view l.datatypes.items) (map con_tree l.types.items) []
