use Rattle.std.proofs.Common.{◌≡◌, map, vec_len}
use Rattle.type_faults.specs.View.{shape_tree}
use Rattle.match_cover.specs.Misses.{missed, prepended}
use Rattle.match_cover.specs.View.{shapes_view}
use Rattle.match_cover.proofs.free.prepended.Given as goal

abbrev pub invariant-joins : goal.invariant-joins
invariant-joins l = prepended (map shape_tree l.waiting.items) (missed (shapes_view l.missed)) ≡ prepended (map shape_tree l.fn.shapes.items) (missed (shapes_view l.initial.missed))

abbrev pub decreases-joins : goal.decreases-joins
decreases-joins l = vec_len l.waiting
