use Rattle.std.proofs.Common.{◌≡◌, map}
use Rattle.con_terms.specs.View.{con_tree}
use Rattle.core_terms.specs.View.{datatype_view}
use Rattle.match_cover.specs.Levels.{large_among}
use Rattle.match_cover.proofs.levels.large_among.Given as goal

abbrev pub invariant-loop-left : goal.invariant-loop-left
invariant-loop-left l =
    large_among (map datatype_view l.datatypes.items) l.left (map con_tree l.now.items) ≡ large_among (map datatype_view l.datatypes.items) l.depth (map con_tree l.fn.types.items)

abbrev pub decreases-loop-left : goal.decreases-loop-left
decreases-loop-left l = l.left
