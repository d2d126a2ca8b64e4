use Rattle.std.proofs.Common.{◌≡◌, false, map, vec_len}
use Rattle.core_terms.specs.View.{datatype_view}
use Rattle.carried_types.specs.Carriers.{MarkedAnew, SameMarks}
use Rattle.carried_types.specs.View.{carriers_view}
use Rattle.carried_types.proofs.carried.without_others.Given as goal

abbrev pub invariant-loop-i : goal.invariant-loop-i
invariant-loop-i l =
    (vec_len l.carried ≡ l.i)
    × MarkedAnew (map datatype_view l.datatypes.items) (carriers_view l.before) l.i l.carried.items
    × (l.fewer ≡ false → SameMarks l.i (carriers_view l.before) l.carried.items)
