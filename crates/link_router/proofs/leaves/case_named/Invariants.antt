use Rattle.std.proofs.Common.{Option, map, length}
use Rattle.std.specs.List.{Contains}
use Rattle.table_rows.specs.Shapes.{Sh}
use Rattle.table_rows.specs.View.{datatype_view, case_view}
use Rattle.link_router.proofs.leaves.case_named.Given as goal

abbrev pub invariant-loop-first : goal.invariant-loop-first
invariant-loop-first l = record {
  known : (held : Option Sh) → Contains (map case_view l.rest) (l.piece, held) → Contains (datatype_view l.datatype) (l.piece, held);
  left : (held : Option Sh) → Contains (datatype_view l.datatype) (l.piece, held) → Contains (map case_view l.rest) (l.piece, held);
}

abbrev pub decreases-loop-first : goal.decreases-loop-first
decreases-loop-first l = length l.rest
