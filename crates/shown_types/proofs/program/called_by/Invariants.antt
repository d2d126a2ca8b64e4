use Rattle.std.proofs.Common.{◌≡◌, map, take}
use Rattle.shown_types.specs.Programs.{texts_of}
use Rattle.shown_types.specs.View.{known_view}
use Rattle.shown_types.proofs.program.called_by.Given as goal

abbrev pub invariant-loop-i : goal.invariant-loop-i
invariant-loop-i l = l.made ≡ texts_of (known_view l.known) (map (λ s. s.number) (take l.i l.called.items.items))
