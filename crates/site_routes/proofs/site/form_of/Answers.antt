use Rattle.std.proofs.Common.{map}
use Rattle.con_terms.specs.View.{con_tree}
use Rattle.core_terms.specs.View.{datatype_view, program_view}
use Rattle.carried_types.specs.View.{carriers_view}
use Rattle.table_rows.specs.View.{maybe_shape}
use Rattle.site_routes.proofs.Taken.{not_filled, gives_none, form_shape}
use Rattle.site_routes.proofs.site.form_of.Goals as goal

pub returns-then-page : goal.returns-then-page
returns-then-page c =
    form_shape maybe_shape c.args.names.now (map datatype_view c.args.known.now.datatypes.items) (carriers_view c.args.known.now.carriers) (con_tree c.args.a.now) (con_tree c.args.b.now)
    c.in_ok-filled.filled c.in_ok-page.page c.shaped.result c.in_ok-filled.ensures c.if-filled.true c.in_ok-page.ensures c.if-page.true c.shaped.ensures

pub returns-else-page : goal.returns-else-page
returns-else-page c =
    gives_none c.args.names.now (map datatype_view c.args.known.now.datatypes.items) (carriers_view c.args.known.now.carriers) (con_tree c.args.a.now) (con_tree c.args.b.now)
    c.in_ok-page.page c.in_ok-page.ensures c.if-page.false

pub returns-else-filled : goal.returns-else-filled
returns-else-filled c =
    not_filled c.args.names.now (map datatype_view c.args.known.now.datatypes.items) (carriers_view c.args.known.now.carriers) (con_tree c.args.a.now) (con_tree c.args.b.now)
    c.in_ok-filled.filled c.in_ok-filled.ensures c.if-filled.false
