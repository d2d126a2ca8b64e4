use Rattle.std.proofs.Common.{◌≡◌, map, take}
use Rattle.core_terms.specs.View.{constructor_view}
use Rattle.match_cover.proofs.declared.copy_constructors.Given as goal

abbrev pub invariant-loop-j : goal.invariant-loop-j
invariant-loop-j l = map constructor_view l.items.items ≡ map constructor_view (take l.j l.cs.items.items)
