use Rattle.std.proofs.Common.{◌≡◌, map, drop}
use Rattle.core_terms.specs.View.{symbols_view}
use Rattle.core_typing.specs.Declarations.{under_types}
use Rattle.judgements.specs.View.{sc_view}
use Rattle.judgements.specs.declared.globals.Globals.{Globals}
use Rattle.core_checker.proofs.declarations.under_types.Given as goal

abbrev pub invariant-loop-i : goal.invariant-loop-i
invariant-loop-i l =
    (g : Globals) → under_types (map (λ s. s.number) (drop l.i l.names.items.items)) (sc_view g l.here)
    ≡ under_types (symbols_view l.names) (sc_view g l.s)
