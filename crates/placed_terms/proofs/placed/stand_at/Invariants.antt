use Rattle.std.proofs.Common.{◌≡◌}
use Rattle.placed_terms.specs.Parts.{made_listed, source_listed}
use Rattle.placed_terms.specs.Placed.{stand_at}
use Rattle.placed_terms.proofs.placed.stand_at.Given as goal

abbrev pub invariant-loop : goal.invariant-loop
invariant-loop l = stand_at l.file (source_listed l.source.items) (made_listed l.made.items)
    ≡ stand_at l.file (source_listed l.initial.source.items) (made_listed l.initial.made.items)
