use Rattle.std.proofs.Common.{◌≡◌, take}
use Rattle.site_routes.proofs.site.copy_texts.Given as goal

abbrev pub invariant-loop-i : goal.invariant-loop-i
invariant-loop-i l = l.copy ≡ take l.i l.name
