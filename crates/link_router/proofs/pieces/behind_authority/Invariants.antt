use Rattle.std.proofs.Common.{◌≡◌, length}
use Rattle.link_router.specs.Links.{from_slash}
use Rattle.link_router.proofs.pieces.behind_authority.Given as goal

abbrev pub invariant-loop-first : goal.invariant-loop-first
invariant-loop-first l = from_slash l.bytes ≡ from_slash l.rest

abbrev pub decreases-loop-first : goal.decreases-loop-first
decreases-loop-first l = length l.rest
