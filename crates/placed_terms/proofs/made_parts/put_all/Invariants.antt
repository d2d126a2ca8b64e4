use Rattle.std.proofs.Common.{◌≡◌, length}
use Rattle.placed_terms.specs.Parts.{made_listed, then_all}
use Rattle.placed_terms.proofs.made_parts.put_all.Given as goal

abbrev pub invariant-loop-last : goal.invariant-loop-last
invariant-loop-last g l = then_all (g.X.MadeItem.places) l.rest (made_listed l.parts.items)
    ≡ then_all (g.X.MadeItem.places) l.items (made_listed l.initial.parts.items)

abbrev pub decreases-loop-last : goal.decreases-loop-last
decreases-loop-last g l = length l.rest
