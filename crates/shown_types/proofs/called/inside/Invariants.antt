use Rattle.std.proofs.Common.{◌≡◌, ◌∷◌, take}
use Rattle.shown_types.proofs.called.inside.Given as goal

abbrev pub invariant-loop-i : goal.invariant-loop-i
invariant-loop-i l = l.made ≡ l.fn.name ∷ take l.i l.called
