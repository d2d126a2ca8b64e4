use Rattle.std.proofs.Common.{map}
use Rattle.con_terms.specs.View.{con_tree}
use Rattle.core_terms.specs.View.{datatype_view, program_view}
use Rattle.carried_types.specs.View.{carriers_view}
use Rattle.site_routes.specs.View.{kept_view, maybe_entry, value_view}
use Rattle.site_routes.proofs.Listed.{adds_one}
use Rattle.site_routes.proofs.site.add_entry.Goals as goal

pub returns : goal.returns
returns c =
    adds_one c.add_found.result c.args.names.now (map datatype_view c.args.known.now.datatypes.items) (carriers_view c.args.known.now.carriers) c.args.with_form c.args.i (value_view c.args.v.now)
    (kept_view c.args.all.now) (kept_view c.add_found.new.all) (maybe_entry c.in_ok-found.found) c.in_ok-found.ensures c.add_found.ensures
