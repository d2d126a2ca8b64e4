use Rattle.std.proofs.Common.{map}
use Rattle.con_terms.specs.View.{con_tree}
use Rattle.core_terms.specs.Trees.{Pg}
use Rattle.core_terms.specs.View.{datatype_view}
use Rattle.carried_types.specs.View.{carriers_view}
use Rattle.table_rows.specs.View.{shape_tree}
use Rattle.site_routes.specs.Taking.{Knows, Behind}
use Rattle.site_routes.proofs.site.taken.Given as goal

abbrev pub invariant-loop-i : goal.invariant-loop-i
invariant-loop-i l =
    (p : Pg) → Knows p l.names (map datatype_view l.known.datatypes.items) (carriers_view l.known.carriers)
    → Behind p l.with_form (con_tree l.t) (map shape_tree l.items.items) (con_tree l.now)
