use Rattle.std.proofs.Common.{map}
use Rattle.con_terms.specs.View.{con_tree}
use Rattle.core_terms.specs.View.{datatype_view, program_view}
use Rattle.carried_types.specs.View.{carriers_view}
use Rattle.site_routes.specs.View.{kept_view, value_view}
use Rattle.site_routes.proofs.Listed.{adds_called, adds_none}
use Rattle.site_routes.proofs.site.add_called.Goals as goal

pub returns-then-called : goal.returns-then-called
returns-then-called c =
    adds_called c.add_entry.result c.args.names.now (map datatype_view c.args.known.now.datatypes.items) (carriers_view c.args.known.now.carriers) c.args.with_form c.args.called c.args.i (value_view c.args.v.now)
    (kept_view c.args.all.now) (kept_view c.add_entry.new.all) c.if-called.true c.add_entry.ensures

pub returns-else-called : goal.returns-else-called
returns-else-called c = λ p k. adds_none p c.args.with_form c.args.called c.args.i (value_view c.args.v.now) (kept_view c.args.all.now) c.if-called.false
