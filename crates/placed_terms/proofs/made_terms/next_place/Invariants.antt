use Rattle.std.proofs.Common.{◌≡◌}
use Rattle.placed_terms.specs.Parts.{made_listed}
use Rattle.placed_terms.proofs.made_terms.next_place.Given as goal

abbrev pub invariant-loop : goal.invariant-loop
invariant-loop l = made_listed l.initial.parts.items ≡ made_listed l.parts.items
