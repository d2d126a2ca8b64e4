use Rattle.std.proofs.Common.{◌≡◌, drop, nat_eq}
use Rattle.source_terms.specs.Alike.{each}
use Rattle.source_terms.proofs.alike.same_numbers.Given as goal

abbrev pub invariant-loop-i : goal.invariant-loop-i
invariant-loop-i l = each nat_eq l.a l.b ≡ each nat_eq (drop l.i l.a) (drop l.i l.b)
