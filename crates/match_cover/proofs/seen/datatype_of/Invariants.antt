use Rattle.std.proofs.Common.{◌≡◌, drop, map}
use Rattle.core_terms.specs.Datatypes.{datatype_of}
use Rattle.core_terms.specs.View.{datatype_view}
use Rattle.match_cover.proofs.seen.datatype_of.Given as goal

abbrev pub invariant-loop-i : goal.invariant-loop-i
invariant-loop-i l = datatype_of (map datatype_view l.datatypes.items) l.s.number ≡ datatype_of (map datatype_view (drop l.i l.datatypes.items)) l.s.number
