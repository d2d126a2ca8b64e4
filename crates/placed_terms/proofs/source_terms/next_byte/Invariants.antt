use Rattle.std.proofs.Common.{◌≡◌}
use Rattle.placed_terms.specs.Parts.{source_listed}
use Rattle.placed_terms.proofs.source_terms.next_byte.Given as goal

abbrev pub invariant-loop : goal.invariant-loop
invariant-loop l = source_listed l.initial.parts.items ≡ source_listed l.parts.items
