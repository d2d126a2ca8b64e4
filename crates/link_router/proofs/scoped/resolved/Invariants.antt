use Rattle.std.proofs.Common.{◌≡◌}
use Rattle.link_router.specs.Scoped.{closed_tree}
use Rattle.link_router.proofs.scoped.resolved.Given as goal

abbrev pub invariant-loop-named : goal.invariant-loop-named
invariant-loop-named l = closed_tree l.named ≡ closed_tree l.wanted
