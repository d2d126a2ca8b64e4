use Rattle.std.proofs.Common.{◌≡◌, ◌++◌, length, map}
use Rattle.type_makers.proofs.symbols.texts_of.Given as goal

abbrev pub invariant-loop-texts : goal.invariant-loop-texts
invariant-loop-texts l = l.names ++ map (λ t. t.now) l.texts ≡ map (λ t. t.now) l.fn.texts

abbrev pub decreases-loop-texts : goal.decreases-loop-texts
decreases-loop-texts l = length l.texts
