use Rattle.std.proofs.Common.{map}
use Rattle.core_terms.specs.View.{datatype_view, program_view}
use Rattle.carried_types.specs.View.{carriers_view}
use Rattle.link_router.specs.View.{routes_view}
use Rattle.table_rows.specs.View.{datatypes_view}
use Rattle.site_routes.specs.View.{kept_view}
use Rattle.site_routes.proofs.Listed.{routes_are}
use Rattle.site_routes.proofs.site.routes.Goals as goal

pub returns : goal.returns
returns c =
    routes_are (program_view c.args.p.now) (program_view c.args.p.now).names (map datatype_view c.in_ok-known.known.datatypes.items)
    (carriers_view c.in_ok-known.known.carriers) (routes_view c.made.result.routes) c.made.result.callees.items (kept_view c.in_ok-all.all) (datatypes_view c.in_ok-datatypes.datatypes)
    c.in_ok-known.ensures c.in_ok-datatypes.ensures c.made.ensures.datatypes (c.in_ok-all.ensures c.in_ok-known.ensures) c.made.ensures.entries c.made.ensures.callees
