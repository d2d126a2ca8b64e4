use Rattle.std.proofs.Common.{◌≡◌, ◌≤◌, drop, map, vec_len}
use Rattle.match_cover.specs.Misses.{columns_at}
use Rattle.match_cover.specs.View.{part_view, columns_view}
use Rattle.match_cover.proofs.columns.columns_at.Given as goal

abbrev pub invariant-loop-left : goal.invariant-loop-left
invariant-loop-left l =
    (columns_view l.built.value ≡ columns_at l.depth (map part_view (drop l.left l.fields.items)) (columns_view l.rest.value)) × (l.left ≤ vec_len l.fields)

abbrev pub decreases-loop-left : goal.decreases-loop-left
decreases-loop-left l = l.left
