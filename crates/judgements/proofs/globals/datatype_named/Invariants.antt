use Rattle.std.proofs.Common.{◌≡◌, map, drop}
use Rattle.core_terms.specs.Datatypes.{datatype_of}
use Rattle.core_terms.specs.View.{datatype_view}
use Rattle.judgements.proofs.globals.datatype_named.Given as goal

abbrev pub invariant-loop-i : goal.invariant-loop-i
invariant-loop-i l =
    datatype_of (map datatype_view l.g.datatypes.items) l.s.number
    ≡ datatype_of (map datatype_view (drop l.i l.g.datatypes.items)) l.s.number
