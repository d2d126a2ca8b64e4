use Rattle.std.proofs.Common.{◌≡◌, map, drop}
use Rattle.core_terms.specs.View.{symbols_view}
use Rattle.source_names.specs.View.{scope_view}
use Rattle.source_terms.specs.Alike.{each}
use Rattle.source_terms.specs.Declarations.{is_name}
use Rattle.source_terms.proofs.datatypes.are_names.Given as goal

abbrev pub invariant-loop-i : goal.invariant-loop-i
invariant-loop-i l =
    each (is_name (scope_view l.s).tables) l.names (symbols_view l.symbols)
    ≡ each (is_name (scope_view l.s).tables) (drop l.i l.names)
    (map (λ s. s.number) (drop l.i l.symbols.items.items))
