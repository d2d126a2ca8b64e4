use Rattle.std.proofs.Common.{◌≡◌, drop}
use Rattle.unbound_names.specs.Declarations.{under_parameters}
use Rattle.unbound_names.specs.View.{around_view}
use Rattle.unbound_names.proofs.declarations.inside_parameters.Given as goal

abbrev pub invariant-loop-i : goal.invariant-loop-i
invariant-loop-i l =
    under_parameters l.words (around_view l.s) ≡ under_parameters (drop l.i l.words) (around_view l.here)
