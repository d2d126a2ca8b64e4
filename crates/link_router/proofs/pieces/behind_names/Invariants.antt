use Rattle.std.proofs.Common.{◌≡◌, ◌++◌, take}
use Rattle.link_router.proofs.pieces.behind_names.Given as goal

abbrev pub invariant-loop-i : goal.invariant-loop-i
invariant-loop-i l = l.pieces ≡ take l.i l.names ++ l.rest
