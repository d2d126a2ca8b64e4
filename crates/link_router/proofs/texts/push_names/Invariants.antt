use Rattle.std.proofs.Common.{◌≡◌, ◌++◌, take}
use Rattle.link_router.specs.Links.{joined}
use Rattle.link_router.proofs.texts.push_names.Given as goal

abbrev pub invariant-loop-i : goal.invariant-loop-i
invariant-loop-i l = l.text ≡ l.initial.text ++ joined (take l.i l.names)
