use Rattle.std.proofs.Common.{◌≡◌, map, take}
use Rattle.core_terms.specs.View.{constructor_view}
use Rattle.shown_types.specs.Programs.{builder_name}
use Rattle.shown_types.proofs.program.builders_of.Given as goal

abbrev pub invariant-loop-i : goal.invariant-loop-i
invariant-loop-i l =
    map (λ s. s.number) l.made.items ≡ map builder_name (map constructor_view (take l.i l.constructors.items.items))
