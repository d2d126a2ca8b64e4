use Rattle.std.proofs.Common.{◌≡◌, ◌+◌, map, drop, option_map}
use Rattle.core_terms.specs.View.{datatype_view}
use Rattle.carried_types.specs.Built.{place_of}
use Rattle.carried_types.proofs.carried.place_of.Given as goal

abbrev pub invariant-loop-i : goal.invariant-loop-i
invariant-loop-i l =
    place_of (map datatype_view l.datatypes.items) l.s.number
    ≡ option_map (λ k. l.i + k) (place_of (map datatype_view (drop l.i l.datatypes.items)) l.s.number)
