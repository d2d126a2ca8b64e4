use Rattle.std.proofs.Common.{map}
use Rattle.core_terms.specs.View.{datatype_view, program_view}
use Rattle.carried_types.specs.View.{carriers_view}
use Rattle.site_routes.specs.Taking.{Knows, SoFar}
use Rattle.site_routes.specs.View.{kept_view}
use Rattle.site_routes.proofs.site.entries_of.Given as goal

abbrev pub invariant-loop-i : goal.invariant-loop-i
invariant-loop-i l =
    Knows (program_view l.p) (program_view l.p).names (map datatype_view l.known.datatypes.items) (carriers_view l.known.carriers)
    → SoFar (program_view l.p) l.i (kept_view l.all)
