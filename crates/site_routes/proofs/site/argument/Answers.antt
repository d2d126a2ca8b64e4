use Rattle.std.proofs.Common.{map}
use Rattle.con_terms.specs.View.{con_tree}
use Rattle.core_terms.specs.View.{datatype_view, program_view}
use Rattle.carried_types.specs.View.{carriers_view}
use Rattle.table_rows.specs.View.{maybe_shape}
use Rattle.site_routes.proofs.Taken.{not_carried, carried_shape}
use Rattle.site_routes.proofs.site.argument.Goals as goal

pub returns-then-carried : goal.returns-then-carried
returns-then-carried c =
    carried_shape maybe_shape c.args.names.now (map datatype_view c.args.known.now.datatypes.items) (carriers_view c.args.known.now.carriers) (con_tree c.args.t.now)
    c.in_ok-carried.carried c.shaped.result c.in_ok-carried.ensures.decides c.if-carried.true c.shaped.ensures

pub returns-else-carried : goal.returns-else-carried
returns-else-carried c =
    not_carried c.args.names.now (map datatype_view c.args.known.now.datatypes.items) (carriers_view c.args.known.now.carriers) (con_tree c.args.t.now)
    c.in_ok-carried.carried c.in_ok-carried.ensures.decides c.if-carried.false
