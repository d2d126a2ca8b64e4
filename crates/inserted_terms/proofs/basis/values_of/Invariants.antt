use Rattle.std.proofs.Common.{◌≡◌, map, take}
use Rattle.inserted_terms.specs.Values.{name_of}
use Rattle.inserted_terms.proofs.basis.values_of.Given as goal

abbrev pub invariant-loop-i : goal.invariant-loop-i
invariant-loop-i l = map name_of l.values.items ≡ take l.i l.names
