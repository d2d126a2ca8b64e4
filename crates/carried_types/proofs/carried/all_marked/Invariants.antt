use Rattle.std.proofs.Common.{◌≡◌, vec_len}
use Rattle.carried_types.specs.Carriers.{AllMarked}
use Rattle.carried_types.proofs.carried.all_marked.Given as goal

abbrev pub invariant-loop-i : goal.invariant-loop-i
invariant-loop-i l = (vec_len l.carried ≡ l.i) × AllMarked l.i l.carried.items
