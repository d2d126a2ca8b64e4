use Rattle.std.proofs.Common.{◌≡◌, ◌+◌, map, drop, option_map}
use Rattle.core_terms.specs.View.{foreign_view}
use Rattle.source_names.specs.Standing.{effect_in}
use Rattle.source_names.proofs.values.effect_in.Given as goal

abbrev pub invariant-loop-i : goal.invariant-loop-i
invariant-loop-i l =
    effect_in l.home l.name (map foreign_view l.effects.items.items)
    ≡ option_map (λ n. l.i + n) (effect_in l.home l.name (map foreign_view (drop l.i l.effects.items.items)))
