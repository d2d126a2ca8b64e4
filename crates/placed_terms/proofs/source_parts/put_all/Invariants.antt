use Rattle.std.proofs.Common.{◌≡◌, length}
use Rattle.placed_terms.specs.Parts.{source_listed, then_all}
use Rattle.placed_terms.proofs.source_parts.put_all.Given as goal

abbrev pub invariant-loop-last : goal.invariant-loop-last
invariant-loop-last g l = then_all (g.X.SourceItem.bytes) l.rest (source_listed l.parts.items)
    ≡ then_all (g.X.SourceItem.bytes) l.items (source_listed l.initial.parts.items)

abbrev pub decreases-loop-last : goal.decreases-loop-last
decreases-loop-last g l = length l.rest
