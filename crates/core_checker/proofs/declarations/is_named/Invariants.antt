use Rattle.std.proofs.Common.{◌≡◌, map, drop}
use Rattle.core_terms.specs.View.{constructor_view}
use Rattle.core_checker.specs.Declarations.{is_named}
use Rattle.core_checker.proofs.declarations.is_named.Given as goal

abbrev pub invariant-loop-i : goal.invariant-loop-i
invariant-loop-i l =
    is_named l.name.number (map constructor_view l.cs)
    ≡ is_named l.name.number (map constructor_view (drop l.i l.cs))
