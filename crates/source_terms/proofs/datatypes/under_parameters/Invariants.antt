use Rattle.std.proofs.Common.{◌≡◌, drop}
use Rattle.source_names.specs.View.{scope_view}
use Rattle.source_terms.specs.Declarations.{under_parameters}
use Rattle.source_terms.proofs.datatypes.under_parameters.Given as goal

abbrev pub invariant-loop-i : goal.invariant-loop-i
invariant-loop-i l =
    under_parameters l.parameters (scope_view l.initial.s)
    ≡ under_parameters (drop l.i l.parameters) (scope_view l.s)
