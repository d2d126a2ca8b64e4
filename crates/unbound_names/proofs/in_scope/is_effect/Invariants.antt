use Rattle.std.proofs.Common.{◌≡◌, map, drop}
use Rattle.core_terms.specs.View.{foreign_view}
use Rattle.source_names.specs.Standing.{effect_in}
use Rattle.unbound_names.specs.InScope.{is_some}
use Rattle.unbound_names.proofs.in_scope.is_effect.Given as goal

abbrev pub invariant-loop-i : goal.invariant-loop-i
invariant-loop-i l =
    is_some (effect_in l.home l.name (map foreign_view l.effects.items.items))
    ≡ is_some (effect_in l.home l.name (map foreign_view (drop l.i l.effects.items.items)))
