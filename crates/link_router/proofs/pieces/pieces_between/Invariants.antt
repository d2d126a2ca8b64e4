use Rattle.std.proofs.Common.{◌≡◌, ◌++◌, map, length}
use Rattle.percent_encoding.specs.Percent as spec
use Rattle.link_router.specs.Links.{split}
use Rattle.link_router.proofs.Paths.{with_front}
use Rattle.link_router.proofs.pieces.pieces_between.Given as goal

abbrev pub invariant-loop-first : goal.invariant-loop-first
invariant-loop-first l = map spec.percent_decode (split l.bytes) ≡ l.pieces.items ++ map spec.percent_decode (with_front l.piece.items (split l.rest))

abbrev pub decreases-loop-first : goal.decreases-loop-first
decreases-loop-first l = length l.rest
