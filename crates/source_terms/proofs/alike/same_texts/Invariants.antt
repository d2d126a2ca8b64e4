use Rattle.std.proofs.Common.{◌≡◌, drop, bytes_eq}
use Rattle.source_terms.specs.Alike.{each}
use Rattle.source_terms.proofs.alike.same_texts.Given as goal

abbrev pub invariant-loop-i : goal.invariant-loop-i
invariant-loop-i l = each bytes_eq l.a l.b ≡ each bytes_eq (drop l.i l.a) (drop l.i l.b)
