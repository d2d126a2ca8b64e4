use Rattle.std.proofs.Common.{map}
use Rattle.con_terms.specs.View.{con_tree}
use Rattle.core_terms.specs.View.{datatype_view, program_view}
use Rattle.carried_types.specs.View.{carriers_view}
use Rattle.site_routes.specs.View.{kept_view, targets_view, value_view}
use Rattle.site_routes.proofs.Listed.{adds_all}
use Rattle.site_routes.proofs.site.add_entries.Goals as goal

pub returns : goal.returns
returns c =
    adds_all c.add_called-2.result (program_view c.args.p.now) (program_view c.args.p.now).names (map datatype_view c.args.known.now.datatypes.items) (carriers_view c.args.known.now.carriers)
    (targets_view c.args.called.now) c.args.exports.now.items c.args.i (value_view c.args.v.now) (kept_view c.args.all.now) (kept_view c.add_called.new.all) (kept_view c.add_called-2.new.all)
    c.is_got-got.result c.is_posted-posted.result c.is_got-got.ensures c.is_posted-posted.ensures c.in_ok-add_called.ensures c.add_called-2.ensures
